use mathlib.Core.Path.{refl}
use native.Mathlib.Omega.{arith}
use Rattle.sheet_said.proofs.Cells.{starts, ends, stops, goes}
use Rattle.sheet_said.proofs.cell_at.Goals as goal

pub loop-i-init : goal.loop-i-init
loop-i-init c = (refl, starts _ _ c.requires)

pub returns-then-byte-eq44 : goal.returns-then-byte-eq44
returns-then-byte-eq44 c =
    let read = stops c.loop-i.invariant.1 (omega arith) c.if-byte-eq44.true in
    record { number_value = read.0; line_value = read.1.0; next_in_bounds = read.1.1 }

pub loop-i-preserved : goal.loop-i-preserved
loop-i-preserved c =
    let l = c.loop-i in
    (refl, rw c.with_byte-number.ensures (goes l.invariant.1 (omega arith) c.if-byte-eq44.false))

pub returns-after-loop-i : goal.returns-after-loop-i
returns-after-loop-i c =
    let l = c.loop-i in
    let read = ends l.invariant.1 (omega (arith, l.invariant.1.inside)) in
    record { number_value = read.0; line_value = rw l.invariant.0 read.1.0; next_in_bounds = omega (arith, l.invariant.0) }
