use Prim.Native.Nat.{◌-◌}
use mathlib.Core.Path.{refl, sym, ◌∙◌}
use native.Mathlib.Omega.{arith}
use Rattle.text.proofs.Writing.{length_wrote}
use Rattle.sheet_text.proofs.Passed.{passed_later, counted_none, counted_more, counted_small, counted_all}
use Rattle.sheet_text.proofs.text_length.Goals as goal

pub loop-at-init : goal.loop-at-init
loop-at-init c = (counted_none _ c.requires, refl)

pub slice_bounds-put_line-end : goal.slice_bounds-put_line-end
slice_bounds-put_line-end c = c.loop-at.invariant.1

pub overflow_add-n : goal.overflow_add-n
overflow_add-n c =
    let r = c in
    let l = r.loop-at in
    let k = c.put_line-n in
    omega (arith, counted_small l.invariant.0 r.record_at-met.result r.loop-at-test.true r.record_at-met.ensures k.result l.invariant.1 k.ensures)

pub loop-at-smaller : goal.loop-at-smaller
loop-at-smaller c =
    let r = c in
    let l = r.loop-at in
    let inside = r.loop-at-test.true in
    omega (arith, passed_later l.invariant.0.passed r.record_at-met.result inside r.record_at-met.ensures, inside)

pub loop-at-preserved : goal.loop-at-preserved
loop-at-preserved c =
    let r = c in
    let l = r.loop-at in
    let k = c.put_line-n in (
      counted_more l.invariant.0 r.record_at-met.result r.loop-at-test.true r.record_at-met.ensures k.result l.invariant.1 k.ensures,
      l.invariant.1 ∙ sym (length_wrote k.ensures),
    )

pub returns : goal.returns
returns c = counted_all c.loop-at.invariant.0 c.loop-at-test.false
