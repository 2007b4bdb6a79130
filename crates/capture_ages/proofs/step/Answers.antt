-- `capture_ages::step` meets its contract.
use Rattle.std.proofs.Common.{refl, ap, eq-eqb, ne_eqb}
use Rattle.units.specs.declared.BitPeriods.{BitPeriods}
use Rattle.capture_ages.specs.Clock.{step_of}
use Rattle.capture_ages.proofs.step.Goals as goal

pub returns-then-w-eq0 : goal.returns-then-w-eq0
unfolding step_of
returns-then-w-eq0 c = rw (eq-eqb _ 0 c.if-w-eq0.true) refl

pub returns : goal.returns
unfolding step_of
returns c = rw (ne_eqb _ 0 c.if-w-eq0.false) (ap (λ (b : BitPeriods). b.0) c.response.ensures)
