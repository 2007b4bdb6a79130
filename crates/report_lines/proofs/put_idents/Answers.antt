use mathlib.Core.Path.{sym, ap, ◌∙◌}
use Prim.Native.Nat.{ℕ, ◌/◌}
use native.Mathlib.Nat.{div-one}
use native.Mathlib.Omega.{arith}
use Rattle.report_lines.specs.Lines.{name_at}
use Rattle.text.specs.Text.{item, texts}
use Rattle.text.proofs.Numbers.{quotient_more}
use Rattle.text.proofs.Writing.{length_wrote, wrote_none, wrote_next, wrote_all}
use Rattle.report_lines.proofs.put_idents.Goals as goal

pub loop-name-init : goal.loop-name-init
unfolding texts
loop-name-init c = (sym (div-one _), wrote_none)

pub loop-name-preserved : goal.loop-name-preserved
unfolding name_at
loop-name-preserved c =
    let start = c in
    let l = c.loop-name in (
      ap (λ (x : ℕ). x / 2) l.invariant.0 ∙ quotient_more 2 start.args.row l.name-index,
      wrote_next (name_at start.args.row (item start.args.names.now)) l.invariant.1 (rw l.invariant.0 at c.put_ident-next.ensures),
    )

pub shape_of-out : goal.shape_of-out
shape_of-out c = length_wrote c.loop-name.invariant.1

pub returns : goal.returns
returns c =
    let start = c in
    wrote_all (name_at start.args.row (item start.args.names.now)) c.loop-name.invariant.1 (omega arith)
