-- `report_sheet::put_masters` stores the lines of n masters. The loop's invariant: the first i lines are stored.
use Rattle.text.specs.Text.{item, texts, Wrote}
use Rattle.report_sheet.specs.Arrays.{master_at}
use Rattle.report_sheet.proofs.put_masters.Given as goal

abbrev pub invariant-loop-i : goal.invariant-loop-i
invariant-loop-i l = Wrote l.initial.out l.at (texts (master_at (item l.bound) (item l.refined) (item l.rounds)) l.i) l.out l.next
