-- `sheet_text::import` meets its contract: what the whole text came to decides, and a sheet is copied from what was kept.
use Rattle.std.proofs.lemmas.Result.{err_from_is_err_and}
use mathlib.Core.Path.{sym, ◌∙◌}
use native.Mathlib.Omega.{arith}
use lib.Seq.{length-take-le}
use Rattle.sheet_text.proofs.Imported.{comes_taken, imported_bad, kept_inside, imported_sheet}
use Rattle.sheet_text.proofs.import.Goals as goal

pub slice_bounds-sheet-end : goal.slice_bounds-sheet-end
slice_bounds-sheet-end c =
    let taken = c.take-taken.ensures in
    let came = comes_taken c.args.text.now _ _ c.start.ensures c.line_buffer-front.ensures c.sheet_buffer-sheet.ensures (taken.value, (taken.front_after, taken.sheet_after)) in
    kept_inside came (sym c.end.ensures ∙ c.in_ok-n.was)

pub slice_bounds-copy-end : goal.slice_bounds-copy-end
slice_bounds-copy-end c =
    let taken = c.take-taken.ensures in
    let came = comes_taken c.args.text.now _ _ c.start.ensures c.line_buffer-front.ensures c.sheet_buffer-sheet.ensures (taken.value, (taken.front_after, taken.sheet_after)) in
    sym (length-take-le _ _ (kept_inside came (sym c.end.ensures ∙ c.in_ok-n.was)))

pub returns-in_err-n : goal.returns-in_err-n
returns-in_err-n c =
    let a = c.args in
    let taken = c.take-taken.ensures in
    let came = comes_taken a.text.now _ _ c.start.ensures c.line_buffer-front.ensures c.sheet_buffer-sheet.ensures (taken.value, (taken.front_after, taken.sheet_after)) in
    let told = imported_bad a.out.now a.text.now came (omega arith) (sym c.end.ensures ∙ c.in_err-n.was) in
    let p = err_from_is_err_and c.from_residual.result c.from_residual.ensures.1 in
    rw (p.1, p.2) (record { value = told.0; out_after = told.1 })

pub returns : goal.returns
returns c =
    let a = c.args in
    let taken = c.take-taken.ensures in
    let came = comes_taken a.text.now _ _ c.start.ensures c.line_buffer-front.ensures c.sheet_buffer-sheet.ensures (taken.value, (taken.front_after, taken.sheet_after)) in
    let copied = c.copy.ensures in
    let told = imported_sheet a.out.now a.text.now came (sym c.end.ensures ∙ c.in_ok-n.was) (copied.value, copied.out_after) in
    record { value = told.0; out_after = told.1 }
