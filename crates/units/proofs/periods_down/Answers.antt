-- `units::periods_down` answers u rounded down, and the greatest 32-bit count where u is longer than that.
use mathlib.Core.Path.{ap}
use native.Mathlib.Omega.{arith}
use Rattle.units.specs.Units.{bp, periods_down}
use Rattle.units.proofs.periods_down.Goals as goal

pub returns-then-n-ge-ALL : goal.returns-then-n-ge-ALL
unfolding periods_down
returns-then-n-ge-ALL c = ap bp (omega arith)

pub returns : goal.returns
unfolding periods_down
returns c = ap bp (omega arith)
