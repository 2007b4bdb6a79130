-- Page 02, Ask 2, from the bytes of a sheet: where the planner accepts a sheet, the number that stands in the lent run for W at master k's
-- place is kept to by every run of the bus in which all masters keep their spacing, and it is never above the one for R. Assumes nothing.
use Prim.Native.Nat.{ℕ, ◌≤◌}
use mathlib.Core.Path.{◌≡◌}
use mathlib.Core.List.{List}
use native.Mathlib.Omega.{arith}
use lib.ListN.{length}
use Rattle.sheet_rules.specs.Sheets.{Sheet}
use Rattle.sheet_rules.specs.Whole.Outcome.{Read}
use Rattle.units.specs.Units.{bp}
use Rattle.pnet_rules.specs.Segment.{segment_of}
use Rattle.pnet_rules.specs.Refined.{refined}
use Rattle.pnet_rules.proofs.Figures.{refined_at_most_bound}
use Rattle.pnet_plan.specs.Planned.{planned}
use Rattle.pnet_run.specs.Run.{Request, Answer, Queues, Token, Run}
use Rattle.pnet_run.specs.Promise.{Spaced, Answered}
use Rattle.pnet_run.proofs.Demand.{each_request_is_answered_within_the_refined_figure}
use Rattle.demands.proofs.Demand3.{accepted_as_demanded, written_for, written_for_is}
use Rattle.demands.proofs.Written3.{written, written_is_bound}

-- the bytes s, and the three lent runs before the call; the planner accepts the sheet H that the bytes say
module _ (s bounds refineds rounds : List ℕ) (H : Sheet) (accepts : planned s (length bounds) (length refineds) (length rounds) ≡ Read H) where
  -- k is one of its masters
  module _ (k : ℕ) (from : 1 ≤ k) (to : k ≤ H.head.a) where
    -- what the run for W holds at master k's place after the call
    unfoldable pub written_refined : ℕ
    unfolding written_for
    written_refined = written_for s bounds refineds rounds H accepts k from to refined refineds

    pub written_refined_is_W : written_refined ≡ refined (segment_of H) k
    unfolding written_refined
    written_refined_is_W = written_for_is s bounds refineds rounds H accepts k from to refined refineds

    -- 'for every accepted sheet whose masters all keep their spacing, .. every response is within the corrected figure'
    pub each_request_is_answered_within_the_written_refined_figure : {now : ℕ} {token : Token} {queues : Queues} {came : List Request} {went : List Answer}
        → Run (segment_of H) now token queues came went → ((y : ℕ) → Spaced (segment_of H) y came)
        → Answered (bp written_refined) (segment_of H) k now token came went
    each_request_is_answered_within_the_written_refined_figure run spaced =
        rw written_refined_is_W
        (each_request_is_answered_within_the_refined_figure H (accepted_as_demanded s bounds refineds rounds H accepts) k run spaced)

    pub refined_is_never_above_the_bound : written_refined ≤ written s bounds refineds rounds H accepts k from to
    unfolding segment_of
    refined_is_never_above_the_bound =
        omega (arith, written_refined_is_W, written_is_bound s bounds refineds rounds H accepts k from to, refined_at_most_bound (segment_of H) k from to)
