-- Page 02, 'Ask 1': the bytes of a capture, and its refusals, 2, 1, 14, 15 and 16 in this order, record by record. Assumes nothing.
use Rattle.std.specs.Prelude.{ℕ, zero, suc, ◌+◌, ◌*◌, Bool, true, false, cond, not, ◌&&◌, ◌||◌, List, [], ◌∷◌, length, ◌==◌, nat_le, nat_lt, slice_index}
use Rattle.common.specs.Checks.{Check, check, Verdict, verdict}
use Rattle.common.specs.Checks.Verdict.{Passed, Refused}
use Rattle.common.specs.Sums.{up, first_of}
use Rattle.sheet_record.specs.Numbers.{be}
use Rattle.sheet_record.specs.Kinds.{within}
use Rattle.capture_log.specs.declared.Event.{Event}
use Rattle.capture_log.specs.Log.{Before, left}

-- ---- Bytes

-- a record has seven: kind, stream number (2), stamp (4)
abbrev pub size : ℕ
size = 7

-- the record whose kind byte stands at a place
unfoldable pub event_at : List ℕ → ℕ → Event
unfolding be
event_at c at = record { kind = slice_index c at; stream = be c (at + 1) 2; stamp = be c (at + 3) 4 }

-- the first n records, the latest first
unfoldable pub events_in : List ℕ → ℕ → List Event
unfolding event_at
events_in c zero = []
events_in c (suc n) = event_at c (size * n) ∷ events_in c n

-- the kinds of a capture; those of a sheet are unknown in it
unfoldable pub known : ℕ → Bool
known k = k == 16 || k == 17

-- the record at a place, and `none` where no whole one of a known kind stands
abbrev pub none : Event
none = record { kind = 0; stream = 0; stamp = 0 }

unfoldable pub met_at : List ℕ → ℕ → Event
unfolding known event_at
met_at c at = cond (nat_le (at + size) (length c) && known (slice_index c at)) (event_at c at) none

-- ---- Refusals

-- those of the record e at a place of m bytes, for a sheet of n streams, where `waiting` requests of its stream are open
unfoldable pub event_checks : ℕ → ℕ → ℕ → ℕ → Event → List Check
unfolding known within
event_checks m n waiting at e =
    check 2 (not (known e.kind)) at
    ∷ check 1 (nat_lt m (at + size)) at
    ∷ check 14 (not (within 1 e.stream n)) at
    ∷ check 15 (e.kind == 17 && waiting == 0) at
    ∷ check 16 (e.kind == 16 && not (waiting == 0)) at
    ∷ []

-- record j, counted from 0, of the capture c
unfoldable pub judge : List ℕ → ℕ → Before → ℕ → Verdict
unfolding verdict event_checks left events_in event_at
judge c n b j =
    let e = event_at c (size * j) in
    verdict (event_checks (length c) n (left b (events_in c j) e.stream) (size * j) e)

abbrev pub is_refused : Verdict → Bool
is_refused Passed = false
is_refused (Refused n p) = true

-- how many records there are, and all of them; the last may be cut
unfoldable pub records : List ℕ → ℕ
unfolding up
records c = up (length c) size

unfoldable pub events : List ℕ → List Event
unfolding events_in records
events c = events_in c (records c)

-- how many are taken: all before the first that is refused
unfoldable pub taken : List ℕ → ℕ → Before → ℕ
unfolding first_of judge records
taken c n b = first_of (λ j. is_refused (judge c n b j)) (records c) 0

-- the refusal of that one, if there is one
unfoldable pub heard : List ℕ → ℕ → Before → Verdict
unfolding judge taken records
heard c n b = cond (nat_lt (taken c n b) (records c)) (judge c n b (taken c n b)) Passed
