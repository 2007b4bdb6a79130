-- `tally` meets its contract. The invariant: the stream is counted at each slot in front of the one at which it asks next.
use Prim.Native.Nat.{◌-◌}
use Rattle.pnet_urgent_table.proofs.Tallies.{Tallying}
use Rattle.pnet_urgent_table.proofs.tally.Given as goal

abbrev pub invariant-loop-next : goal.invariant-loop-next
invariant-loop-next l = Tallying l.turn l.spacing l.a l.initial.table l.initial.next l.initial.rest l.next l.rest l.table

abbrev pub decreases-loop-next : goal.decreases-loop-next
decreases-loop-next l = l.end - l.next
