-- `report_sheet::put_rows` stores the rows. The loop's invariant: the first m are stored.
use Rattle.text.specs.Text.{item, texts, Wrote}
use Rattle.report_sheet.specs.Whole.{row_at}
use Rattle.report_sheet.proofs.put_rows.Given as goal

abbrev pub invariant-loop-m : goal.invariant-loop-m
invariant-loop-m l = Wrote l.initial.out l.at (texts (row_at (item l.rows) (item l.names)) l.m) l.out l.next
