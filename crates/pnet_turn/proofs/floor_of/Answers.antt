-- `pnet_turn::floor_of` meets its contract.
use mathlib.Core.Path.{ap, ◌∙◌}
use Rattle.units.specs.Units.{capped}
use Rattle.pnet_turn.specs.Turn.{floor_of}
use Rattle.pnet_turn.proofs.floor_of.Goals as goal

pub returns : goal.returns
unfolding floor_of
returns c = c.narrow.ensures ∙ ap capped c.least_of.ensures.0
