-- Page 01, 'Sheet records', the writer: what writing one record answers, and what the buffer then holds. Assumes nothing.
use Rattle.std.specs.Prelude.{ℕ, ◌+◌, ◌^◌, List, [], ◌∷◌, cond, not, length, ltb}
use Rattle.common.specs.Checks.{Check, check, Verdict, verdict, unless}
use Rattle.common.specs.Checks.Verdict.{Passed, Refused}
use Rattle.sheet_record.specs.Numbers.{pasted}
use Rattle.sheet_record.specs.Kinds.{written, size_of, encode, in_range}
use Rattle.sheet_record.specs.declared.Given.{Given}
use Rattle.sheet_record.specs.declared.Record.{Record}
use Rattle.std.specs.declared.result.Result.{Result}
use Rattle.common.specs.declared.Refusal.{Refusal}

-- limits that need another record are taken at their greatest: 32 masters, a longest message of 100,000
abbrev pub greatest : Given
greatest = record { masters = 32; message = 100000 }

-- the length that the whole buffer needs, and 0 where it can't be counted in 64 bits
unfoldable pub needed : ℕ → ℕ
needed end = cond (ltb end (2 ^ 64)) end 0

-- for a buffer of n bytes: the writer puts the kind, and there is room
abbrev pub kind_check : ℕ → Record → Check
kind_check at r = check 2 (not (written r.kind)) at

abbrev pub room_check : ℕ → ℕ → Record → Check
room_check n at r = check 13 (ltb n (at + size_of r.kind)) (needed (at + size_of r.kind))

-- kind, ranges, room, in this order
unfoldable pub write_checks : ℕ → ℕ → Record → List Check
unfolding written in_range needed size_of
write_checks n at r = kind_check at r ∷ check 4 (not (in_range greatest r)) at ∷ room_check n at r ∷ []

-- the same for a record whose numbers may be out of range, as a text may say them
unfoldable pub free_checks : ℕ → ℕ → Record → List Check
unfolding written needed size_of
free_checks n at r = kind_check at r ∷ room_check n at r ∷ []

abbrev pub pasted_by : Verdict → List ℕ → List ℕ → List ℕ
pasted_by Passed new b = new
pasted_by (Refused n p) new b = b

-- the answer: the place just after the record, or the refusal
unfoldable pub put_answer : ℕ → ℕ → Record → Result ℕ Refusal
unfolding verdict write_checks size_of
put_answer n at r = unless (verdict (write_checks n at r)) (at + size_of r.kind)

-- the buffer: only the record's own bytes change, and none on a refusal
unfoldable pub put_bytes : List ℕ → ℕ → Record → List ℕ
unfolding verdict write_checks encode
put_bytes b at r = pasted_by (verdict (write_checks (length b) at r)) (pasted b at (encode r)) b

unfoldable pub free_answer : ℕ → ℕ → Record → Result ℕ Refusal
unfolding verdict free_checks size_of
free_answer n at r = unless (verdict (free_checks n at r)) (at + size_of r.kind)

unfoldable pub free_bytes : List ℕ → ℕ → Record → List ℕ
unfolding verdict free_checks encode
free_bytes b at r = pasted_by (verdict (free_checks (length b) at r)) (pasted b at (encode r)) b
