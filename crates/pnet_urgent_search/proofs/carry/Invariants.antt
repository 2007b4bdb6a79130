-- `carry` meets its contract. The invariant: the walk has come to `slot` after `rounds`, whatever right side the table shows.
use Prim.Native.Nat.{◌+◌, ◌-◌}
use Rattle.pnet_urgent_search.proofs.Walks.{Carrying}
use Rattle.pnet_urgent_search.proofs.carry.Given as goal

abbrev pub invariant-loop-slot : goal.invariant-loop-slot
invariant-loop-slot l = Carrying l.table l.a l.c l.most l.n l.m l.slot l.rounds

abbrev pub decreases-loop-slot : goal.decreases-loop-slot
decreases-loop-slot l = l.a + 513 - l.slot
