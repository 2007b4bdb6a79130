-- `sheet_read::pass_messages` meets its contract. The loop's invariant is `GivesOn`: the longest messages so far passed, and are kept. The measure is
-- what is left of the sheet.
use Prim.Native.Nat.{◌-◌}
use lib.ListN.{length}
use Rattle.sheet_read.proofs.Begins.{GivesOn}
use Rattle.sheet_read.proofs.pass_messages.Given as goal

abbrev pub invariant-loop-given : goal.invariant-loop-given
invariant-loop-given l = GivesOn l.s l.head l.first l.given l.messages l.at

abbrev pub decreases-loop-given : goal.decreases-loop-given
decreases-loop-given l = length l.s - l.at
