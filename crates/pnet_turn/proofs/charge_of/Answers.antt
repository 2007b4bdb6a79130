-- `pnet_turn::charge_of` meets its contract.
use mathlib.Core.Path.{ap, ◌∙◌}
use native.Mathlib.Omega.{arith}
use Rattle.units.specs.Units.{capped}
use Rattle.pnet_turn.specs.Turn.{charge_of}
use Rattle.pnet_turn.proofs.charge_of.Goals as goal

pub returns : goal.returns
unfolding charge_of
returns c = c.narrow.ensures ∙ ap capped (omega (arith, c.max.ensures, c.hold_of.ensures.0))
