-- `pnet_turn::narrow` meets its contract.
use mathlib.Core.Path.{ap}
use Rattle.units.specs.Units.{bp, capped}
use Rattle.pnet_turn.proofs.narrow.Goals as goal

pub returns : goal.returns
unfolding capped
returns c = ap bp c.min.ensures
