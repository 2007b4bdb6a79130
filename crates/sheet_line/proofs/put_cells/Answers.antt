use mathlib.Core.Path.{◌∙◌}
use native.Mathlib.Omega.{arith}
use Rattle.text.specs.Text.{texts}
use Rattle.text.proofs.Writing.{length_wrote, wrote_then, wrote_none, wrote_next, wrote_all}
use Rattle.sheet_line.specs.Lines.{line_by}
use Rattle.sheet_line.proofs.put_cells.Invariants.{cell}
use Rattle.sheet_line.proofs.put_cells.Goals as goal

pub loop-j-init : goal.loop-j-init
unfolding texts
loop-j-init c = wrote_none

pub loop-j-preserved : goal.loop-j-preserved
loop-j-preserved c =
    let called = c in
    let l = called in
    let a = l.args in
    wrote_next (cell a.r a.unit.now) {i = l.loop-j.j} l.loop-j.invariant (rw called.other.ensures at c.put_counted-next-in-loop-j.ensures)

pub shape_of-out : goal.shape_of-out
shape_of-out c =
    let l = c in
    length_wrote c.put_word.ensures ∙ (length_wrote l.loop-j.invariant ∙ length_wrote l.put_counted-next.ensures)

pub returns : goal.returns
unfolding line_by
returns c =
    let l = c in
    let a = l.args in
    let stored = wrote_all (cell a.r a.unit.now) {i = l.loop-j.j} l.loop-j.invariant {n = a.n} (omega arith) in
    wrote_then l.put_counted-next.ensures (wrote_then stored c.put_word.ensures)
