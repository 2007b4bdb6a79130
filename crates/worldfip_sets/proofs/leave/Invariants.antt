-- `worldfip_sets::leave` meets its contract. The invariant: what the turns still to come leave of p is what all of them leave of x.
use mathlib.Core.Path.{◌≡◌}
use Prim.Native.Nat.{◌-◌}
use Rattle.worldfip_sets.specs.Sets.{left, lowest}
use Rattle.worldfip_sets.proofs.leave.Given as goal

abbrev pub invariant-loop : goal.invariant-loop
invariant-loop l = left lowest (l.s - l.counter) l.p ≡ left lowest l.s l.x
