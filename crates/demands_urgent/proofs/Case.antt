-- The sheet of specs/Case from its bytes: the planner that sends urgent requests first accepts it and writes places 1, 2, 3, x 500, 1,000 and 1,000 and rounds 1, 2, 2; the
-- planner for first come, first served refuses it with 8 at stream 1. So an alarm every 500 bp is promised its answer beside two streams that are not urgent. Assumes nothing.
use Prim.Native.Nat.{ℕ}
use mathlib.Core.Path.{◌≡◌, refl, ap}
use mathlib.Core.List.{List, [], ◌∷◌}
use native.Mathlib.Omega.{arith}
use Rattle.common.specs.Runs.{tab, filled}
use Rattle.sheet_rules.specs.Whole.Outcome.{Read, Not}
use Rattle.pnet_rules.specs.Segment.{segment_of}
use Rattle.pnet_plan.specs.Planned.{planned}
use Rattle.pnet_bounds.specs.Bounded.{stream_run}
use Rattle.pnet_urgent_rules.specs.Urgent.{rank, place, rounds, figure}
use Rattle.pnet_urgent_rules.specs.Planned.{urgently}
use Rattle.demands_urgent.specs.Written.{written_at, room_in}
use Rattle.demands_urgent.specs.Kept.{Promised}
use Rattle.demands_urgent.specs.Case.{bytes, sheet, lent}
use Rattle.demands_urgent.proofs.Kept.{written_x, each_request_is_answered_within_the_written_x}

pub accepts : urgently bytes (room_in lent lent lent) ≡ Read sheet
unfolding urgently
accepts = refl

-- a run with a place for its one master
pub first_come_refuses : planned bytes 1 1 1 ≡ Not 8 1
unfolding planned
first_come_refuses = refl

-- what the planner writes
pub written_runs :
    let answer = urgently bytes (room_in lent lent lent) in
    (stream_run answer place lent ≡ 1 ∷ 2 ∷ 3 ∷ []) × (stream_run answer figure lent ≡ 500 ∷ 1000 ∷ 1000 ∷ []) × (stream_run answer rounds lent ≡ 1 ∷ 2 ∷ 2 ∷ [])
unfolding filled tab segment_of rank figure rounds
written_runs = rw accepts (refl, refl, refl)

-- each request of stream 1 is answered within 500 bp, which is its T, if it alone keeps its spacing
pub each_alarm_is_answered_within_500 : Promised (segment_of sheet) 1 500
each_alarm_is_answered_within_500 = rw is_500 at (each_request_is_answered_within_the_written_x bytes lent lent lent sheet accepts 1 (omega arith) (omega arith))
  where
    is_500 : written_x bytes lent lent lent sheet accepts 1 (omega arith) (omega arith) ≡ 500
    is_500 = ap (λ (run : List ℕ). written_at run 1) written_runs.1
