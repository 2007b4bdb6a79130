-- `units::nanos_up` answers b in ns, rounded up.
use mathlib.Core.Path.{ap}
use native.Mathlib.Omega.{arith}
use Rattle.common.specs.Sums.{up}
use Rattle.units.specs.Units.{ns, nanos_up}
use Rattle.units.proofs.nanos_up.Goals as goal

pub returns : goal.returns
unfolding nanos_up up
returns c = ap ns (omega arith)
