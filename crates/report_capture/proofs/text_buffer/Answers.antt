-- `report_capture::text_buffer` is as long as every report of a capture needs, all zeros.
use Rattle.report_capture.specs.Shown.{most_capture}
use Rattle.text.proofs.Zeros.{zeros}
use Rattle.report_capture.proofs.text_buffer.Goals as goal

pub returns : goal.returns
returns c = zeros most_capture
