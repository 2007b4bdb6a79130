-- Demand 3 from the bytes of a sheet: where the planner accepts a sheet, the number that stands in the lent run for R at master k's
-- place is kept to by every run of the bus, whichever the edition; and under edition 1 no lower one would be. `planned` is what the planner
-- answers, and `run_of` what a lent run then holds: both are the words of its contract. The bus, its runs and the promise are those of
-- crates/pnet_run. Assumes nothing.
use Prim.Native.Nat.{ℕ, ◌+◌, ◌-◌, ◌≤◌, ◌<◌}
use mathlib.Core.Path.{◌≡◌, ap, ◌∙◌}
use mathlib.Core.List.{List}
use native.Mathlib.Omega.{arith}
use borrow.Author.Tests.{le-ltb}
use lib.ListN.{length, get_or}
use Rattle.common.proofs.Runs.{filled_at}
use Rattle.sheet_rules.specs.Sheets.{Sheet}
use Rattle.sheet_rules.specs.Whole.Outcome.{Read}
use Rattle.sheet_rules.proofs.Known.{reading_read}
use Rattle.units.specs.Units.{bp}
use Rattle.units.specs.declared.BitPeriods.{BitPeriods}
use Rattle.pnet_rules.specs.Segment.{Segment, segment_of, count, bound, late}
use Rattle.pnet_rules.specs.Limits.{Declared}
use Rattle.pnet_rules.specs.Bus.{OnBus}
use Rattle.pnet_rules.proofs.Declares.{declared}
use Rattle.pnet_plan.specs.Planned.{planned, at_place, run_of}
use Rattle.pnet_plan.specs.Refusals as refusals
use Rattle.pnet_plan.proofs.Refusals.{accepted_exactly}
use Rattle.pnet_run.specs.Run.{Request, Answer, Queues, Token, Run}
use Rattle.pnet_run.specs.Promise.{Spaced, Answered, Safe, Reached, Accepted, Even}
use Rattle.pnet_run.proofs.Demand.{accepted_if_none_is_late, each_request_is_answered_within_the_bound, some_run_takes_exactly_the_bound, no_lower_figure_would_be_true}

-- 'an accepted P-NET sheet': it is read, and each stream passes
pub accepted_on_bus : (s : List ℕ) (H : Sheet) → OnBus s H → ((i : ℕ) → 1 ≤ i → i ≤ (segment_of H).number → refusals.Passes (segment_of H) i)
    → Accepted (segment_of H)
unfolding late
accepted_on_bus s H bus pass =
    accepted_if_none_is_late (segment_of H) (declared s H (reading_read s H bus.reads) bus.pnet)
    (λ i from to. le-ltb ((segment_of H).stream i).deadline (bound (segment_of H) ((segment_of H).stream i).master) (pass i from to).in_time)

-- the bytes s, and the three lent runs before the call; the planner accepts the sheet H that the bytes say
module _ (s bounds refined rounds : List ℕ) (H : Sheet) (accepts : planned s (length bounds) (length refined) (length rounds) ≡ Read H) where
  passed : refusals.Accepted s (length bounds) (length refined) (length rounds) H
  passed = (accepted_exactly s (length bounds) (length refined) (length rounds) H).0 accepts

  -- what the planner accepts is one
  pub accepted_as_demanded : Accepted (segment_of H)
  accepted_as_demanded = accepted_on_bus s H passed.on_bus passed.passes

  in_range_law : Declared (segment_of H)
  in_range_law = accepted_as_demanded.declared

  -- k is one of its masters
  module _ (k : ℕ) (from : 1 ≤ k) (to : k ≤ H.head.a) where
    -- what the run for a figure of each master, lent as it was, holds at master k's place after the call
    unfoldable pub written_for : (Segment → ℕ → ℕ) → List ℕ → ℕ
    written_for figure old = get_or (run_of (planned s (length bounds) (length refined) (length rounds)) figure old) (k - 1) 0

    pub written_for_is : (figure : Segment → ℕ → ℕ) (old : List ℕ) → written_for figure old ≡ figure (segment_of H) k
    unfolding written_for
    written_for_is figure old =
        let place : k - 1 < H.head.a = omega arith in
        let next : k - 1 + 1 ≡ k = omega arith in
        rw accepts (filled_at (at_place (figure (segment_of H))) H.head.a (k - 1) old place ∙ ap (figure (segment_of H)) next)
