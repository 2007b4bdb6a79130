-- `sheet_pieces::hold` meets its contract: the byte is stored where there is room.
use native.Mathlib.Omega.{arith}
use Rattle.sheet_pieces.proofs.Held.{holds_more, holds_all}
use Rattle.sheet_pieces.proofs.hold.Goals as goal

pub returns-then-held-front : goal.returns-then-held-front
returns-then-held-front c =
    let a = c.args in
    let one = holds_more a.front.now a.held a.byte (omega arith) in
    record { value = one.0; front_after = one.1 }

pub returns : goal.returns
returns c =
    let a = c.args in
    let one = holds_all a.front.now a.held a.byte (omega arith) in
    record { value = one.0; front_after = one.1 }
