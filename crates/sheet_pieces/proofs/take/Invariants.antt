-- `sheet_pieces::take` meets its contract: byte after byte of the piece.
use Rattle.sheet_pieces.proofs.Stepped.{TakenTo, state}
use Rattle.sheet_pieces.proofs.take.Given as goal

abbrev pub invariant-loop-byte : goal.invariant-loop-byte
invariant-loop-byte l =
    TakenTo l.piece (state l.initial.taken l.initial.front l.initial.sheet) l.byte-index l.taken l.front l.sheet
