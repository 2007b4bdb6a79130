-- `report_urgent_lines::text_buffer` is as long as every report needs, all zeros.
use Rattle.report_urgent_lines.specs.Lines.{most_urgent}
use Rattle.text.proofs.Zeros.{zeros}
use Rattle.report_urgent_lines.proofs.text_buffer.Goals as goal

pub returns : goal.returns
returns c = zeros most_urgent
