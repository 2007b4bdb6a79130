-- `planner_beside::listen` hears a capture piece by piece. The invariant: the runs hold what the sheet and the pieces so far leave.
-- Assumes nothing.
use Rattle.std.proofs.Common.{◌≡◌, ◌+◌, ◌-◌, ◌^◌, length}
use Rattle.report_beside.specs.Whole.{tally}
use Rattle.report_beside.specs.Kept.{Holds}
use Rattle.planner_beside.proofs.listen.Given as goal

abbrev pub invariant-loop-error : goal.invariant-loop-error
invariant-loop-error l =
    Holds l.urgent l.sheet l.heard l.masters l.bound l.spacing l.jitter (tally l.left l.since l.answers l.largest l.above l.asked l.lead) × (length l.piece ≡ 65534)

abbrev pub decreases-loop-error : goal.decreases-loop-error
decreases-loop-error l = 2 ^ 63 + 65534 - l.heard.bytes
