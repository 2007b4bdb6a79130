-- `sheet_text::text_buffer` is as long as the text of every accepted sheet needs, all zeros.
use Rattle.text.proofs.Zeros.{zeros}
use Rattle.sheet_text.proofs.Lengths.{most_text_is}
use Rattle.sheet_text.proofs.text_buffer.Goals as goal

pub returns : goal.returns
returns c = rw most_text_is (zeros 79968)
