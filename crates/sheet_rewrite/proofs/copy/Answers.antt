-- `sheet_rewrite::copy` meets its contract: refused for want of room, or written whole.
use mathlib.Core.Path.{refl}
use native.Mathlib.Omega.{arith}
use Rattle.sheet_rewrite.proofs.Filled.{filled_short, filled_whole}
use Rattle.sheet_rewrite.proofs.copy.Goals as goal

pub returns-then-out-n : goal.returns-then-out-n
returns-then-out-n c =
    let f = filled_short c.args.out.now c.args.s.now refl (omega arith) in
    record { value = f.0; out_after = f.1 }

pub shape_of-out : goal.shape_of-out
shape_of-out c = c.put_word.auto.out

pub returns : goal.returns
returns c =
    let f = filled_whole c.args.out.now c.args.s.now (omega arith) c.put_word.ensures in
    record { value = f.0; out_after = f.1 }
