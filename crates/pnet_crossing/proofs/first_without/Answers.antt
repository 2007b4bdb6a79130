use native.Mathlib.Omega.{arith}
use borrow.Author.Tests.{eq-eqb, ne_eqb}
use Rattle.pnet_crossing.specs.Cost.{no_bound}
use Rattle.pnet_crossing.proofs.Laws.{searched_more, searched_here, searched_end}
use Rattle.pnet_crossing.proofs.first_without.Goals as goal

pub returns-then-bound-eq0 : goal.returns-then-bound-eq0
unfolding no_bound
returns-then-bound-eq0 c = searched_here _ _ c.loop-i.invariant (omega arith) _ (omega arith) (eq-eqb _ _ c.if-bound-eq0.true)

pub loop-i-preserved : goal.loop-i-preserved
unfolding no_bound
loop-i-preserved c = searched_more _ _ c.loop-i.invariant (omega arith) (ne_eqb _ _ c.if-bound-eq0.false)

pub returns : goal.returns
returns c = searched_end _ _ c.loop-i.invariant (omega arith) _ (omega arith)
