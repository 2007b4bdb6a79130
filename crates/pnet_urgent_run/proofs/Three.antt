-- The sheet of the worked cases: one master with three streams of C 203, so V is 250; D is 500 for stream 1 and 100,000 for the others. With T 500 for stream 1 and no J,
-- Ask 11 accepts all three, where first come would be late. The sheet names no edition, so edition 1 holds. Assumes nothing.
use Prim.Native.Nat.{ℕ, ◌≤◌}
use mathlib.Core.Path.{◌≡◌, refl}
use mathlib.Core.Bool.{true, false}
use mathlib.Core.List.{[], ◌∷◌}
use native.Mathlib.Omega.{arith}
use Rattle.sheet_record.specs.declared.Record.{Record}
use Rattle.sheet_record.specs.Kinds.{is_stream_of, in_range}
use Rattle.sheet_rules.specs.Sheets.{Sheet}
use Rattle.units.specs.Units.{bp}
use Rattle.pnet_rules.specs.Segment.{Segment, stream_of, segment_of, bound, late}
use Rattle.pnet_rules.specs.Limits.{Ranged, Declared}
use Rattle.pnet_rules.proofs.Declares.{stream_ranged}
use Rattle.pnet_urgent_rules.specs.Urgent.{figure, unmet}
use Rattle.pnet_run.specs.Run.{Belongs}
use Rattle.pnet_run.proofs.Few.{each, limits, declared_if_few}
use Rattle.pnet_urgent_run.specs.Promise.{SafeFor}
use Rattle.pnet_urgent_run.proofs.Figures.{each_request_is_answered_within_its_figure}

-- ---- The sheet

-- stream 1, with T and J as given; and each other stream
abbrev first : ℕ → ℕ → Record
first T J = record { kind = 7; a = 1; b = 203; c = T; d = 500; e = J }

abbrev slow : Record
slow = record { kind = 2; a = 1; b = 203; c = 100000; d = 100000; e = 0 }

abbrev sheet_of : ℕ → ℕ → Sheet
sheet_of T J = record { head = record { kind = 1; a = 1; b = 0; c = 0; d = 0; e = 0 }; settings = []; streams = first T J ∷ slow ∷ slow ∷ [] }

abbrev pub three_of : ℕ → ℕ → Segment
three_of T J = segment_of (sheet_of T J)

pub stream_1 : (T J : ℕ) → Belongs (three_of T J) 1 1
unfolding segment_of
stream_1 T J = record { from_one = omega arith; to_last = omega arith; own = refl }

pub stream_2 : (T J : ℕ) → Belongs (three_of T J) 1 2
unfolding segment_of
stream_2 T J = record { from_one = omega arith; to_last = omega arith; own = refl }

pub stream_3 : (T J : ℕ) → Belongs (three_of T J) 1 3
unfolding segment_of
stream_3 T J = record { from_one = omega arith; to_last = omega arith; own = refl }

-- ---- Its figures, where stream 1 may ask every 500 bp

abbrev pub three : Segment
three = three_of 500 0

pub figures_are : (figure three 1 ≡ 500) × (figure three 2 ≡ 1000) × (figure three 3 ≡ 1000)
unfolding segment_of figure
figures_are = (refl, refl, refl)

all_are_accepted : (i : ℕ) → 1 ≤ i → i ≤ three.number → unmet three i ≡ false
unfolding segment_of unmet
all_are_accepted = each (λ i. unmet three i ≡ false) refl refl refl

first_in_range : Ranged 1 (stream_of (first 500 0))
unfolding is_stream_of in_range
first_in_range = stream_ranged (limits 1) (first 500 0) refl refl

slow_in_range : Ranged 1 (stream_of slow)
unfolding is_stream_of in_range
slow_in_range = stream_ranged (limits 1) slow refl refl

declared : Declared three
unfolding segment_of
declared =
    declared_if_few three (omega arith) (omega arith) (omega arith) (omega arith) (each (λ i. Ranged 1 (three.stream i)) first_in_range slow_in_range slow_in_range)

-- so each request is answered within these, by a stack that is free once its answer is complete
pub each_is_safe : SafeFor (bp 500) three 1 × SafeFor (bp 1000) three 2 × SafeFor (bp 1000) three 3
each_is_safe = (rw figures_are.0 at (of (stream_1 500 0)), rw figures_are.1 at (of (stream_2 500 0)), rw figures_are.2 at (of (stream_3 500 0)))
  where
    of : {i : ℕ} → Belongs three 1 i → SafeFor (bp (figure three i)) three i
    of {i} b = each_request_is_answered_within_its_figure (sheet_of 500 0) declared i b.from_one b.to_last (all_are_accepted i b.from_one b.to_last)

-- by first come, stream 1 is late
pub first_come_is_late : (bound three 1 ≡ 750) × (late three 1 ≡ true)
unfolding segment_of bound late
first_come_is_late = (refl, refl)
