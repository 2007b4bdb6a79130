-- Page 01, 'Sheet records': what a reader finds at a place of the sheet s, and where its steps lead. Of the refusals it gives those two
-- that the bytes show by themselves, 2 and 1 in this order; the others need the records before. Assumes nothing.
use Rattle.std.specs.Prelude.{ℕ, zero, suc, ◌+◌, List, [], ◌∷◌, Bool, cond, not, length, get_or, ltb, eqb}
use Rattle.common.specs.Checks.{Check, check, Verdict, verdict, refusal}
use Rattle.common.specs.Checks.Verdict.{Passed, Refused}
use Rattle.common.specs.Sums.{first_of}
use Rattle.sheet_record.specs.Kinds.{known, size_of, decode}
use Rattle.sheet_reader.specs.declared.Found.{Found}
use Rattle.sheet_reader.specs.declared.Found.TheVariants as found

unfoldable pub byte_checks : List ℕ → ℕ → List Check
unfolding known size_of
byte_checks s at =
    check 2 (not (known (get_or s at 0))) at
    ∷ check 1 (ltb (length s) (at + size_of (get_or s at 0))) at
    ∷ []

abbrev pub found_by : Verdict → Found → Found
found_by Passed f = f
found_by (Refused n p) f = found.Refused (refusal n p)

-- past the last byte the end; else the first refusal that applies, or the record and the place just after it
unfoldable pub found_of : List ℕ → ℕ → Found
unfolding verdict byte_checks decode size_of
found_of s at =
    cond (ltb at (length s))
    (found_by (verdict (byte_checks s at)) (found.One (record { found = decode s at; next = at + size_of (get_or s at 0) })))
    found.End

-- ---- The walk

-- the place just after the record that was found at a place; where none was, that place
abbrev pub behind_of : Found → ℕ → ℕ
behind_of (found.One m) at = m.next
behind_of (found.Refused r) at = at
behind_of found.End at = at

-- where a step from a place leads
unfoldable pub step_from : List ℕ → ℕ → ℕ
unfolding found_of
step_from s at = behind_of (found_of s at) at

-- where i steps from the first byte lead
unfoldable pub place_after : List ℕ → ℕ → ℕ
unfolding step_from
place_after s zero = 0
place_after s (suc i) = step_from s (place_after s i)

-- behind i steps the next one stays
unfoldable pub stays_after : List ℕ → ℕ → Bool
unfolding place_after
stays_after s i = eqb (place_after s (suc i)) (place_after s i)

-- how many records stand whole one after the other from the first byte on: so many steps, and the next one stays. A record has a byte at
-- least, so there are no more of them than bytes
unfoldable pub count : List ℕ → ℕ
unfolding first_of stays_after
count s = first_of (stays_after s) (length s) 0
