-- `pnet_turn::turn_of` meets its contract. The invariant: before master y `turn` is the sum of what those before it are charged.
use mathlib.Core.Path.{◌≡◌}
use Prim.Native.Nat.{◌-◌, ◌*◌, ◌≤◌}
use Rattle.common.specs.Sums.{upto}
use Rattle.pnet_turn.specs.Turn.{charged_in}
use Rattle.pnet_turn.proofs.turn_of.Given as goal

abbrev pub invariant-loop-y : goal.invariant-loop-y
invariant-loop-y l = record { sum : l.turn ≡ upto (charged_in l.counts l.longests l.n l.edition) (l.y - 1); small : l.turn ≤ 4294967342 * (l.y - 1) }
