use Prim.Native.Nat.{◌-◌, ◌+◌}
use mathlib.Core.Path.{◌≡◌, ◌∙◌, sym}
use native.Mathlib.Omega.{arith}
use Rattle.sheet_record.proofs.Numbers.{put_step, put_done, length_digits}
use Rattle.sheet_write.proofs.put_number.Goals as goal

pub loop-j-preserved : goal.loop-j-preserved
loop-j-preserved c =
    let l = c.loop-j in
    let a = c.args in
    let e : (l.j - 1) + 1 ≡ l.j = omega arith in
    rw e at (put_step l.buf a.at (l.j - 1) l.x (omega arith)) ∙ l.invariant

pub returns : goal.returns
returns c =
    let l = c.loop-j in
    let e : l.j ≡ 0 = omega arith in
    rw length_digits (sym (put_done l.buf c.args.at l.x) ∙ (rw e at l.invariant))
