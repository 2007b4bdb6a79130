-- `pnet_simulate::response` meets its contract.
use mathlib.Core.Path.{sym}
use borrow.Author.Tests.{eq-eqb, ne_eqb}
use lib.ListN.{get_or-eq_default}
use Rattle.pnet_simulate.specs.Simulated.{response_of}
use Rattle.pnet_simulate.proofs.response.Goals as goal

pub returns-then-p-answered : goal.returns-then-p-answered
unfolding response_of
returns-then-p-answered c = rw (eq-eqb _ _ c.if-owner-p.true)

pub returns-else-p-answered : goal.returns-else-p-answered
unfolding response_of
returns-else-p-answered c =
    let a = c.args in
    rw (eq-eqb _ _ c.if-owner-p.true) (sym (get_or-eq_default a.answered.now 0 c.if-p-answered.false))

pub returns-else-owner-p : goal.returns-else-owner-p
unfolding response_of
returns-else-owner-p c = rw (ne_eqb _ _ c.if-owner-p.false)
