-- `report_sheet::put_table` stores the two first lines and the rows.
use Rattle.text.proofs.Writing.{wrote_then}
use Rattle.report_sheet.specs.Whole.{table_text}
use Rattle.report_sheet.proofs.put_table.Goals as goal

pub put_rows-requires : goal.put_rows-requires
put_rows-requires c = c.requires

pub returns : goal.returns
unfolding table_text
returns c = wrote_then c.put_head-next.ensures c.put_rows.ensures
