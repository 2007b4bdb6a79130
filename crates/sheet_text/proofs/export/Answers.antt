-- `sheet_text::export` meets its contract: refused as reading refuses, for a first record without a word, or for want of room, or written whole.
use Rattle.std.proofs.lemmas.Result.{err_from_is_err_and}
use mathlib.Core.Path.{sym, ap, ◌∙◌}
use mathlib.Core.Bool.{not}
use native.Mathlib.Omega.{arith}
use Rattle.sheet_text.proofs.Exported.{exported_not, exported_reads, exported_wordless, exported_short, exported_whole}
use Rattle.sheet_text.proofs.export.Goals as goal

pub returns-then-not-has_word : goal.returns-then-not-has_word
returns-then-not-has_word c =
    let a = c.args in
    let w = c.has_word in
    let told = exported_wordless a.out.now a.s.now _ _ _ (sym c.read.ensures ∙ c.in_ok-sheet.was) w.result w.ensures (ap not c.if-not-has_word.true) in
    record { value = told.0; out_after = told.1 }

pub text_length-n-requires : goal.text_length-n-requires
text_length-n-requires c = let a = c.args in exported_reads a.out.now a.s.now _ _ _ (sym c.read.ensures ∙ c.in_ok-sheet.was)

pub returns-then-out-n : goal.returns-then-out-n
returns-then-out-n c =
    let a = c.args in
    let w = c.has_word in
    let n = c.text_length-n in
    let told =
    exported_short a.out.now a.s.now _ _ _ (sym c.read.ensures ∙ c.in_ok-sheet.was) w.result w.ensures n.result (ap not c.if-not-has_word.false) n.ensures
    c.if-out-n.true
    in
    record { value = told.0; out_after = told.1 }

pub put_text-requires : goal.put_text-requires
put_text-requires c = let a = c.args in exported_reads a.out.now a.s.now _ _ _ (sym c.read.ensures ∙ c.in_ok-sheet.was)

pub returns-in_err-sheet : goal.returns-in_err-sheet
returns-in_err-sheet c =
    let a = c.args in
    let told = exported_not a.out.now a.s.now _ _ (sym c.read.ensures ∙ c.in_err-sheet.was) in
    let p = err_from_is_err_and c.from_residual.result c.from_residual.ensures.1 in
    rw (p.1, p.2) (record { value = told.0; out_after = told.1 })

pub returns : goal.returns
returns c =
    let a = c.args in
    let w = c.has_word in
    let n = c.text_length-n in
    let told =
    exported_whole a.out.now a.s.now _ _ _ (sym c.read.ensures ∙ c.in_ok-sheet.was) w.result w.ensures n.result (ap not c.if-not-has_word.false) n.ensures
    (omega arith) c.put_text.ensures
    in
    record { value = told.0; out_after = told.1 }
