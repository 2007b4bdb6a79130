-- `sheet_pieces::end` meets its contract.
use Rattle.sheet_pieces.specs.Steps.{ended_as}
use Rattle.sheet_pieces.proofs.end.Goals as goal

pub returns-then-t : goal.returns-then-t
unfolding ended_as
returns-then-t c = rw c.if-t.true

pub returns : goal.returns
unfolding ended_as
returns c = rw c.if-t.false
