-- `report_sheet::text_buffer` is as long as every report needs, all zeros.
use Rattle.report_sheet.specs.Whole.{most_text}
use Rattle.text.proofs.Zeros.{zeros}
use Rattle.report_sheet.proofs.text_buffer.Goals as goal

pub returns : goal.returns
returns c = zeros most_text
