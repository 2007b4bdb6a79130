-- `planner_beside::listen` hears a capture piece by piece, and writes what its answers allow. Assumes nothing.
use Rattle.std.proofs.Common.{rules}
use Rattle.report_beside.proofs.Kept.{heard_holds, heard_tells}
use Rattle.planner_beside.proofs.listen.Goals as goal

pub write-requires : goal.write-requires
write-requires c = heard_tells c.loop-error.invariant.0 _ _ _ _ _ c.hear-told.ensures.fact_2 _ c.in-Refused.is

-- the piece was heard: the runs hold what it leaves too
pub finish-requires : goal.finish-requires
finish-requires c =
    record { spacing = _; jitter = _; since = _; lead = _; held = heard_holds c.loop-error.invariant.0 _ _ _ _ _ c.hear-told.ensures.fact_2 _ c.in-On.is }

pub loop-error-preserved : goal.loop-error-preserved
loop-error-preserved c = (heard_holds c.loop-error.invariant.0 _ _ _ _ _ c.hear-told.ensures.fact_2 _ c.in-On.is, search rules)
