use mathlib.Core.Path.{sym, ◌∙◌}
use native.Mathlib.Omega.{arith}
use Rattle.sheet_said.proofs.Cells.{begins_short, begins_more, begins_other, begins_whole}
use Rattle.sheet_said.proofs.begins.Goals as goal

pub returns-then-line-word : goal.returns-then-line-word
returns-then-line-word c = sym (begins_short _ _ c.if-line-word.true)

pub returns-then-line-i : goal.returns-then-line-i
returns-then-line-i c =
    let l = c.loop-i in
    sym (l.invariant ∙ begins_other _ _ l.i (omega arith) (omega (arith, c.if-line-word.false)) (λ e. omega (arith, c.if-line-i.true)))

pub loop-i-preserved : goal.loop-i-preserved
loop-i-preserved c =
    let l = c.loop-i in
    l.invariant ∙ begins_more _ _ l.i (omega arith) (omega (arith, c.if-line-word.false)) (omega (arith, c.if-line-i.false))

pub returns : goal.returns
returns c =
    let l = c.loop-i in
    sym (l.invariant ∙ begins_whole _ _ l.i (omega arith))
