use native.Mathlib.Omega.{arith}
use Rattle.common.proofs.Runs.{filling_none, filling_more}
use Rattle.capture_watch.specs.Follow.{overdue_at, overdue_run}
use Rattle.capture_watch.proofs.Following.{filled_whole}
use Rattle.capture_watch.proofs.overdue_each.Goals as goal

pub loop-i-init : goal.loop-i-init
loop-i-init c = filling_none _ _

pub loop-i-preserved : goal.loop-i-preserved
unfolding overdue_at
loop-i-preserved c = filling_more _ c.loop-i.invariant (omega (arith, c.requires.1.1.1)) c.open_too_long.ensures

pub returns : goal.returns
unfolding overdue_run
returns c = filled_whole c.loop-i.invariant c.requires.1.1.1 (omega arith)
