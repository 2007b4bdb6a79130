-- `sheet_write::put_two` meets its contract: the second run of digits stands right behind the first.
use Prim.Native.Nat.{◌+◌}
use mathlib.Core.Path.{◌∙◌}
use native.Mathlib.Omega.{arith}
use Rattle.sheet_record.specs.Numbers.{digits}
use Rattle.sheet_record.proofs.Numbers.{length_digits, paste_next}
use Rattle.sheet_write.proofs.put_two.Goals as goal

pub returns : goal.returns
returns c =
    let a = c.args in
    let n = length_digits a.w a.x in
    c.put_number-2.ensures
    ∙ paste_next a.buf.now a.at (digits a.w a.x) (digits a.v a.y) (a.at + a.w)
    c.put_number.ensures (omega arith) (omega arith)
