-- `report_path::text_buffer` is as long as every report of a path needs, all zeros.
use Rattle.report_path.specs.Told.{most_path}
use Rattle.text.proofs.Zeros.{zeros}
use Rattle.report_path.proofs.text_buffer.Goals as goal

pub returns : goal.returns
returns c = zeros most_path
