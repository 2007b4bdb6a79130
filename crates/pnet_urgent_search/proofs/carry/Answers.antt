use native.Mathlib.Omega.{arith}
use Rattle.pnet_urgent_search.proofs.Walks.{carrying_more, carrying_ends, carrying_refused}
use Rattle.pnet_urgent_search.proofs.carry.Goals as goal

pub returns-then-next-slot : goal.returns-then-next-slot
returns-then-next-slot c = let l = c.loop-slot in (l.invariant.fits, carrying_ends l.invariant _ (omega arith) (omega arith) c.if-next-slot.true)

pub returns-then-most-next : goal.returns-then-most-next
returns-then-most-next c = let l = c.loop-slot in (omega arith, carrying_refused l.invariant _ (omega arith) (omega arith) c.if-most-next.true)

pub loop-slot-preserved : goal.loop-slot-preserved
loop-slot-preserved c = carrying_more c.loop-slot.invariant _ (omega arith) (omega arith) c.if-next-slot.false (omega arith)
