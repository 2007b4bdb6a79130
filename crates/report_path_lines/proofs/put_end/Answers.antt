-- `report_path_lines::put_end` stores a count and the end of its line.
use Rattle.text.proofs.Writing.{wrote_then}
use Rattle.report_path_lines.proofs.put_end.Goals as goal

pub returns : goal.returns
returns c = wrote_then c.put_bp-end.ensures c.put_word.ensures
