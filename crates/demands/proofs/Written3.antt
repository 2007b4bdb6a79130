-- Demand 3 from the bytes of a sheet, its three sentences: what Demand3 begins. Where the planner accepts a sheet, the number that stands in the lent run for R at
-- master k's place is kept to by every run of the bus, and under edition 1 no lower one would be. Assumes nothing.
use Prim.Native.Nat.{ℕ, ◌+◌, ◌-◌, ◌≤◌, ◌<◌}
use mathlib.Core.Path.{◌≡◌, ap, ◌∙◌}
use mathlib.Core.List.{List}
use native.Mathlib.Omega.{arith}
use borrow.Author.Tests.{le-ltb}
use lib.ListN.{length, get_or}
use Rattle.common.proofs.Runs.{filled_at}
use Rattle.sheet_rules.specs.Sheets.{Sheet}
use Rattle.sheet_rules.specs.Whole.Outcome.{Read}
use Rattle.sheet_rules.proofs.Known.{reading_read}
use Rattle.units.specs.Units.{bp}
use Rattle.units.specs.declared.BitPeriods.{BitPeriods}
use Rattle.pnet_rules.specs.Segment.{Segment, segment_of, count, bound, late}
use Rattle.pnet_rules.specs.Limits.{Declared}
use Rattle.pnet_rules.specs.Bus.{OnBus}
use Rattle.pnet_rules.proofs.Declares.{declared}
use Rattle.pnet_plan.specs.Planned.{planned, at_place, run_of}
use Rattle.pnet_plan.specs.Refusals as refusals
use Rattle.pnet_plan.proofs.Refusals.{accepted_exactly}
use Rattle.pnet_run.specs.Run.{Request, Answer, Queues, Token, Run}
use Rattle.pnet_run.specs.Promise.{Spaced, Answered, Safe, Reached, Accepted, Even}
use Rattle.pnet_run.proofs.Demand.{accepted_if_none_is_late, each_request_is_answered_within_the_bound, some_run_takes_exactly_the_bound, no_lower_figure_would_be_true}
use Rattle.demands.proofs.Demand3.{accepted_as_demanded, written_for, written_for_is}

-- the bytes s, and the three lent runs before the call; the planner accepts the sheet H that the bytes say
module _ (s bounds refined rounds : List ℕ) (H : Sheet) (accepts : planned s (length bounds) (length refined) (length rounds) ≡ Read H) where
  -- k is one of its masters
  module _ (k : ℕ) (from : 1 ≤ k) (to : k ≤ H.head.a) where
    -- the run for R
    unfoldable pub written : ℕ
    unfolding written_for
    written = written_for s bounds refined rounds H accepts k from to bound bounds

    pub written_is_bound : written ≡ bound (segment_of H) k
    unfolding written
    written_is_bound = written_for_is s bounds refined rounds H accepts k from to bound bounds

    -- 'each of that master's requests is answered within its bound, however often the other masters ask'
    pub each_request_is_answered_within_the_written_bound : {now : ℕ} {token : Token} {queues : Queues} {came : List Request} {went : List Answer}
        → Run (segment_of H) now token queues came went → Spaced (segment_of H) k came → Answered (bp written) (segment_of H) k now token came went
    each_request_is_answered_within_the_written_bound run spaced =
        rw written_is_bound (each_request_is_answered_within_the_bound H (accepted_as_demanded s bounds refined rounds H accepts) k run spaced)

    -- 'some such run takes exactly the bound': 'asked only for edition 1' (page 02, Ask 10), which `Even` asks for
    pub some_run_takes_exactly_the_written_bound : 1 ≤ count (segment_of H) k → Even (segment_of H) k → Reached (bp written) (segment_of H) k
    some_run_takes_exactly_the_written_bound some even = rw written_is_bound (some_run_takes_exactly_the_bound H (accepted_as_demanded s bounds refined rounds H accepts).declared k some even)

    -- 'no lower figure would be true'
    pub no_lower_figure_than_the_written_would_be_true : 1 ≤ count (segment_of H) k → Even (segment_of H) k → (figure : BitPeriods) → Safe figure (segment_of H) k → written ≤ figure.0
    no_lower_figure_than_the_written_would_be_true some even figure safe = rw written_is_bound (no_lower_figure_would_be_true H (accepted_as_demanded s bounds refined rounds H accepts).declared k some even figure safe)
