-- `report_lines::put_line` stores a master's line.
use Rattle.text.specs.Text.{counted}
use Rattle.report_lines.specs.Lines.{master_line}
use Rattle.text.proofs.Writing.{wrote_then}
use Rattle.report_lines.proofs.put_line.Goals as goal

pub returns : goal.returns
unfolding counted master_line
returns c = wrote_then c.put_name-figures.ensures (wrote_then c.put_two-count.ensures c.put_counted.ensures)
