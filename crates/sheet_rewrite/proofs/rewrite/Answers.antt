-- `sheet_rewrite::rewrite` meets its contract: refused as reading refuses, or for want of room; copied, or renewed where the first record is of kind 3.
use Rattle.std.proofs.lemmas.Result.{err_from_is_err_and}
use mathlib.Core.Path.{sym, ◌∙◌}
use native.Mathlib.Omega.{arith}
use Rattle.sheet_rewrite.proofs.Answers.{rewritten_not, rewritten_copied, rewritten_masters, rewritten_within, rewritten_short, rewritten_filled}
use Rattle.sheet_rewrite.proofs.rewrite.Goals as goal

pub returns-then-sheet-ne3 : goal.returns-then-sheet-ne3
returns-then-sheet-ne3 c =
    let a = c.args in
    let f = rewritten_copied a.out.now a.s.now _ _ _ (sym c.read.ensures ∙ c.in_ok-sheet.was) c.if-sheet-ne3.true (c.copy.ensures.value, c.copy.ensures.out_after) in
    record { value = f.0; out_after = f.1.0; rewrites = f.1.1 }

pub slice_bounds-renew-start : goal.slice_bounds-renew-start
slice_bounds-renew-start c = let a = c.args in rewritten_within a.out.now a.s.now _ _ _ (sym c.read.ensures ∙ c.in_ok-sheet.was) c.if-sheet-ne3.false

pub slice_bounds-renew-count : goal.slice_bounds-renew-count
slice_bounds-renew-count c = let a = c.args in rewritten_within a.out.now a.s.now _ _ _ (sym c.read.ensures ∙ c.in_ok-sheet.was) c.if-sheet-ne3.false

pub renew-requires : goal.renew-requires
renew-requires c =
    let a = c.args in
    let e = sym c.read.ensures ∙ c.in_ok-sheet.was in
    record {
      kind_value = c.if-sheet-ne3.false;
      a_bound = rewritten_masters a.out.now a.s.now _ _ _ e c.if-sheet-ne3.false;
      streams_len_bound = rewritten_short a.out.now a.s.now _ _ _ e c.if-sheet-ne3.false;
    }

pub returns-in_err-sheet : goal.returns-in_err-sheet
returns-in_err-sheet c =
    let a = c.args in
    let f = rewritten_not a.out.now a.s.now _ _ (sym c.read.ensures ∙ c.in_err-sheet.was) in
    let p = err_from_is_err_and c.from_residual.result c.from_residual.ensures.1 in
    rw (p.1, p.2) (record { value = f.0; out_after = f.1.0; rewrites = f.1.1 })

pub returns : goal.returns
returns c =
    let a = c.args in
    let e = sym c.read.ensures ∙ c.in_ok-sheet.was in
    let f =
    rewritten_filled a.out.now a.s.now _ _ _ e c.if-sheet-ne3.false (λ i. omega (arith, c.type_inv.s i)) (c.renew.ensures.value, c.renew.ensures.out_after) in
    record { value = f.0; out_after = f.1.0; rewrites = f.1.1 }
