-- `sheet_record::whole_at` meets its contract, for any widths that a kind has.
use Prim.Native.Nat.{◌+◌}
use native.Mathlib.Omega.{arith}
use mathlib.Core.Path.{refl, ◌∙◌}
use Rattle.sheet_record.proofs.Records.{met_cut, decode_is, met_whole}
use Rattle.sheet_record.proofs.whole_at.Goals as goal

pub returns-then-s-at : goal.returns-then-s-at
returns-then-s-at c =
    let a = c.args in
    c.nothing_at.ensures ∙ met_cut a.s.now a.at a.wa a.wb a.wc a.wd a.we c.requires.wide (omega arith)

pub returns : goal.returns
returns c =
    let start = c in
    let a = start.args in
    let n₁ = c.number in
    let n₂ = c.number-2 in
    let n₃ = c.number-3 in
    let n₄ = c.number-4 in
    let n₅ = c.number-5 in
    let w = start.requires.wide in
    met_whole a.s.now a.at a.wa a.wb a.wc a.wd a.we w _ (a.at + 1 + a.wa + a.wb + a.wc + a.wd + a.we)
    (decode_is a.s.now a.at a.wa a.wb a.wc a.wd a.we w _ n₁.result n₂.result n₃.result n₄.result n₅.result refl
    n₁.ensures.0 n₂.ensures.0 n₃.ensures.0 n₄.ensures.0 n₅.ensures.0)
    refl (omega arith)
