-- `units::micros_up` answers b in us, rounded up.
use mathlib.Core.Path.{ap}
use native.Mathlib.Omega.{arith}
use Rattle.common.specs.Sums.{up}
use Rattle.units.specs.Units.{us, micros_up}
use Rattle.units.proofs.micros_up.Goals as goal

pub returns : goal.returns
unfolding micros_up up
returns c = ap us (omega arith)
