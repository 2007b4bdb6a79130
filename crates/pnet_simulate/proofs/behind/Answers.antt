-- `pnet_simulate::behind` meets its contract.
use native.Mathlib.Numerals.{add-one}
use borrow.Author.Rules.{rules}
use borrow.Author.Tests.{eq-eqb, ne_eqb}
use Rattle.pnet_run.specs.Run.{next}
use Rattle.pnet_simulate.proofs.behind.Goals as goal

pub returns-then-m-n : goal.returns-then-m-n
unfolding next
returns-then-m-n c = (simp (eq-eqb c.args.m c.args.n c.if-m-n.true), search rules)

pub returns : goal.returns
unfolding next
returns c = (simp (ne_eqb c.args.m c.args.n c.if-m-n.false, add-one), search rules)
