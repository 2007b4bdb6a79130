-- `sheet_text::put_text` meets its contract. The loop's invariant is `Written`: the text of the records so far stands at the front of the run. The measure is what
-- is left of the sheet.
use Prim.Native.Nat.{◌-◌}
use lib.ListN.{length}
use Rattle.sheet_text.proofs.Passed.{Written}
use Rattle.sheet_text.proofs.put_text.Given as goal

abbrev pub invariant-loop-from : goal.invariant-loop-from
invariant-loop-from l = Written l.s l.initial.out l.from l.out l.next

abbrev pub decreases-loop-from : goal.decreases-loop-from
decreases-loop-from l = length l.s - l.from
