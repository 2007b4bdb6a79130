-- `sheet_reader::count` meets its contract: the reader stands behind n steps, which all move, and it stops where the next one stays.
use Prim.Native.Nat.{◌-◌}
use lib.ListN.{length}
use Rattle.sheet_reader.proofs.Walk.{Walked}
use Rattle.sheet_reader.proofs.count.Given as goal

abbrev pub invariant-loop-next : goal.invariant-loop-next
invariant-loop-next l = Walked l.s l.n l.at l.next

abbrev pub decreases-loop-next : goal.decreases-loop-next
decreases-loop-next l = length l.s - l.at
