use native.Mathlib.Omega.{arith}
use Rattle.sheet_pieces.proofs.Stepped.{state, take_start, take_more, take_done}
use Rattle.sheet_pieces.proofs.take.Goals as goal

pub loop-byte-init : goal.loop-byte-init
loop-byte-init c = let a = c.args in take_start a.piece.now (state a.t a.front.now a.sheet.now)

pub loop-byte-preserved : goal.loop-byte-preserved
loop-byte-preserved c =
    let one = c.step-taken.ensures in
    take_more c.loop-byte.invariant (omega arith) (one.value, (one.front_after, one.sheet_after))

pub returns : goal.returns
returns c =
    let w = c.loop-byte.invariant in
    let all = take_done w (omega (arith, w.inside)) in
    record { value = all.0; front_after = all.1.0; sheet_after = all.1.1 }
