-- `capture_ages::first` meets its contract.
use Rattle.std.proofs.Common.{refl, eq-eqb, ne_eqb}
use Rattle.capture_ages.proofs.first.Goals as goal

pub returns-then-whose-ne0 : goal.returns-then-whose-ne0
returns-then-whose-ne0 c = rw (ne_eqb _ 0 c.if-whose-ne0.true) refl

pub returns-then-early : goal.returns-then-early
returns-then-early c = rw (eq-eqb _ 0 c.if-whose-ne0.false, c.if-early.true) refl

pub returns : goal.returns
returns c = rw (eq-eqb _ 0 c.if-whose-ne0.false, c.if-early.false) refl
