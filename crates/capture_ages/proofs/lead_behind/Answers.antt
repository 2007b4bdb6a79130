-- `capture_ages::lead_behind` meets its contract.
use Rattle.std.proofs.Common.{refl, eq-eqb, ne_eqb}
use Rattle.capture_ages.specs.Ages.{lead_behind}
use Rattle.capture_ages.proofs.lead_behind.Goals as goal

pub returns-then-previous-eq0 : goal.returns-then-previous-eq0
unfolding lead_behind
returns-then-previous-eq0 c = rw (eq-eqb _ 0 c.if-previous-eq0.true) refl

pub returns : goal.returns
unfolding lead_behind
returns c = rw (ne_eqb _ 0 c.if-previous-eq0.false) c.saturating_sub.ensures
