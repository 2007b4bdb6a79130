-- `report_sheet::put_segment` stores the heading and the masters' lines.
use Rattle.report_sheet.specs.Arrays.{segment_text}
use Rattle.text.proofs.Writing.{wrote_then}
use Rattle.report_sheet.proofs.put_segment.Goals as goal

pub put_masters-requires : goal.put_masters-requires
put_masters-requires c = c.requires

pub returns : goal.returns
unfolding segment_text
returns c = wrote_then c.put_word-lines.ensures c.put_masters.ensures
