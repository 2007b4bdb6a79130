-- `sheet_read::read_streams` meets its contract. The loop's invariant is `ReadsOn`: the records so far passed, and the arrays keep them.
-- The measure is what is left of the sheet.
use Prim.Native.Nat.{◌-◌}
use lib.ListN.{length}
use Rattle.sheet_read.proofs.Behind.{ReadsOn}
use Rattle.sheet_read.proofs.read_streams.Given as goal

abbrev pub invariant-loop-at : goal.invariant-loop-at
invariant-loop-at l = ReadsOn l.s l.head l.first l.bus l.messages l.lacks l.counts l.longests l.ids l.n l.at

abbrev pub decreases-loop-at : goal.decreases-loop-at
decreases-loop-at l = length l.s - l.at
