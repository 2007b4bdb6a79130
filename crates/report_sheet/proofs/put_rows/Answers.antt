use Prim.Native.Nat.{◌<◌}
use native.Mathlib.Omega.{arith}
use Rattle.std.proofs.lemmas.List.{get_or-take, length-take-le}
use Rattle.text.specs.Text.{item, texts}
use Rattle.text.proofs.Writing.{length_wrote, wrote_none, wrote_next, wrote_all}
use Rattle.report_sheet.specs.Whole.{row_at}
use Rattle.report_sheet.proofs.put_rows.Goals as goal

pub loop-m-init : goal.loop-m-init
unfolding texts
loop-m-init c = wrote_none

pub loop-m-preserved : goal.loop-m-preserved
unfolding row_at
loop-m-preserved c =
    let a = c.args in
    let i = c.loop-m.m in
    let l : i < a.count = omega (arith, length-take-le a.count a.rows.now c.requires) in
    wrote_next (row_at (item a.rows.now) (item a.names.now)) c.loop-m.invariant (rw (get_or-take a.count a.rows.now i 0 l) at c.put_row-next.ensures)

pub shape_of-out : goal.shape_of-out
shape_of-out c = length_wrote c.loop-m.invariant

pub returns : goal.returns
returns c =
    let a = c.args in
    wrote_all (row_at (item a.rows.now) (item a.names.now)) c.loop-m.invariant (omega (arith, length-take-le a.count a.rows.now c.requires))
