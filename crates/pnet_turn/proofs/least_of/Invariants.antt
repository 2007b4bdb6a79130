-- `pnet_turn::least_of` meets its contract. The invariant: before master y `least` is the largest H of those before it.
use mathlib.Core.Path.{◌≡◌}
use Prim.Native.Nat.{◌-◌, ◌≤◌}
use Rattle.common.specs.Sums.{greatest}
use Rattle.pnet_turn.specs.Turn.{hold_in}
use Rattle.pnet_turn.proofs.least_of.Given as goal

abbrev pub invariant-loop-y : goal.invariant-loop-y
invariant-loop-y l = record { largest : l.least ≡ greatest (hold_in l.counts l.longests) (l.y - 1); small : l.least ≤ 4294967342 }
