use native.Mathlib.Omega.{arith}
use borrow.Author.Tests.{lt-ltb, le-ltb}
use Rattle.pnet_crossing.specs.Cost.{is_too_long}
use Rattle.pnet_crossing.proofs.Laws.{searched_more, searched_here, searched_end}
use Rattle.pnet_crossing.proofs.first_too_long.Goals as goal

pub returns-then-time-gt1000000 : goal.returns-then-time-gt1000000
unfolding is_too_long
returns-then-time-gt1000000 c = searched_here _ _ c.loop-i.invariant (omega arith) _ (omega arith) (lt-ltb _ _ c.if-time-gt1000000.true)

pub loop-i-preserved : goal.loop-i-preserved
unfolding is_too_long
loop-i-preserved c = searched_more _ _ c.loop-i.invariant (omega arith) (le-ltb _ _ c.if-time-gt1000000.false)

pub returns : goal.returns
returns c = searched_end _ _ c.loop-i.invariant (omega arith) _ (omega arith)
