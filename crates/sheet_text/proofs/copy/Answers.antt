-- `sheet_text::copy` meets its contract: refused as reading refuses, or for want of room, or written whole.
use Rattle.std.proofs.lemmas.Result.{err_from_is_err_and}
use mathlib.Core.Path.{sym, ◌∙◌}
use native.Mathlib.Omega.{arith}
use Rattle.sheet_text.proofs.Copied.{copied_not, copied_short, copied_whole}
use Rattle.sheet_text.proofs.copy.Goals as goal

pub returns-then-out-n : goal.returns-then-out-n
returns-then-out-n c =
    let a = c.args in
    let copied = copied_short a.out.now a.s.now _ _ _ (sym c.read.ensures ∙ c.in_ok-read.was) (omega arith) in
    record { value = copied.0; out_after = copied.1 }

pub returns-in_err-read : goal.returns-in_err-read
returns-in_err-read c =
    let a = c.args in
    let copied = copied_not a.out.now a.s.now _ _ (sym c.read.ensures ∙ c.in_err-read.was) in
    let p = err_from_is_err_and c.from_residual.result c.from_residual.ensures.1 in
    rw (p.1, p.2) (record { value = copied.0; out_after = copied.1 })

pub returns : goal.returns
returns c =
    let a = c.args in
    let copied = copied_whole a.out.now a.s.now _ _ _ (sym c.read.ensures ∙ c.in_ok-read.was) (omega arith) c.put_word.ensures in
    record { value = copied.0; out_after = copied.1 }
