-- `sheet_pieces::sheet_buffer` is as long as the bytes that decide a sheet and a record more, all zeros.
use Rattle.text.proofs.Zeros.{zeros}
use Rattle.sheet_pieces.proofs.Kept.{room_is}
use Rattle.sheet_pieces.proofs.sheet_buffer.Goals as goal

pub returns : goal.returns
returns c = rw room_is (zeros 12836)
