use Prim.Native.Nat.{◌-◌}
use native.Mathlib.Omega.{arith}
use Rattle.text.proofs.Writing.{length_wrote}
use Rattle.sheet_text.proofs.Passed.{passed_later, written_none, written_more, written_all}
use Rattle.sheet_text.proofs.put_text.Goals as goal

pub loop-from-init : goal.loop-from-init
loop-from-init c = written_none _ _ c.requires

pub loop-from-smaller : goal.loop-from-smaller
loop-from-smaller c =
    let r = c in
    let l = r.loop-from in
    let inside = r.loop-from-test.true in
    omega (arith, passed_later l.invariant.passed r.record_at-met.result inside r.record_at-met.ensures, inside)

pub loop-from-preserved : goal.loop-from-preserved
loop-from-preserved c =
    let r = c in
    let l = r.loop-from in
    let k = c.put_line-next in
    written_more l.invariant r.record_at-met.result r.loop-from-test.true r.record_at-met.ensures k.new.out k.result k.ensures

pub shape_of-out : goal.shape_of-out
shape_of-out c = length_wrote c.loop-from.invariant.wrote

pub returns : goal.returns
returns c = written_all c.loop-from.invariant c.loop-from-test.false
