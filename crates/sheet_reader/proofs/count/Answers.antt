use native.Mathlib.Omega.{arith}
use Rattle.sheet_reader.proofs.Walk.{walked_none, walked_room, walked_on, walked_all}
use Rattle.sheet_reader.proofs.count.Goals as goal

pub loop-next-init : goal.loop-next-init
loop-next-init c = walked_none _ _ c.step_from-next.ensures

pub overflow_add-n : goal.overflow_add-n
overflow_add-n c = omega (arith, walked_room _ c.loop-next.invariant c.loop-next-test.true)

pub loop-next-smaller : goal.loop-next-smaller
loop-next-smaller c = omega (arith, walked_room _ c.loop-next.invariant c.loop-next-test.true)

pub loop-next-preserved : goal.loop-next-preserved
loop-next-preserved c = walked_on _ c.loop-next.invariant c.loop-next-test.true _ c.step_from-next-in-loop-next.ensures

pub returns : goal.returns
returns c = walked_all _ c.loop-next.invariant c.loop-next-test.false
