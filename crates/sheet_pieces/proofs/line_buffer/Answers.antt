-- `sheet_pieces::line_buffer` is 96 bytes, all zeros.
use Rattle.text.proofs.Zeros.{zeros}
use Rattle.sheet_pieces.proofs.line_buffer.Goals as goal

pub returns : goal.returns
returns c = zeros 96
