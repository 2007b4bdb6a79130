-- `pnet_turn::hold_of` meets its contract.
use native.Mathlib.Omega.{arith}
use borrow.Author.Tests.{eq-eqb, ne_eqb}
use borrow.Author.Rules.{rules}
use Rattle.pnet_rules.specs.Segment.{charge}
use Rattle.pnet_turn.proofs.hold_of.Goals as goal

pub returns-then-count-eq0 : goal.returns-then-count-eq0
unfolding charge
returns-then-count-eq0 c = (rw (eq-eqb c.args.count 0 c.if-count-eq0.true), omega arith)

pub returns-else-count-eq0 : goal.returns-else-count-eq0
unfolding charge
returns-else-count-eq0 c = (rw (ne_eqb c.args.count 0 c.if-count-eq0.false), search rules)
