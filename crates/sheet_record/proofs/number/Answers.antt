use Prim.Native.Nat.{◌<◌, ◌+◌}
use native.Mathlib.Omega.{arith}
use borrow.Author.Rules.{rules}
use lib.ListN.{get_or}
use Rattle.std.proofs.lemmas.List.Edits.{get_or-between}
use Rattle.sheet_record.specs.Numbers.{be}
use Rattle.sheet_record.proofs.Numbers.{be_more, step_below, four_at_most}
use Rattle.sheet_record.proofs.number.Goals as goal

pub loop-byte-init : goal.loop-byte-init
unfolding be
loop-byte-init c = search rules

pub overflow_mul-x : goal.overflow_mul-x
overflow_mul-x c = omega (arith, four_at_most c.loop-byte.byte-index (omega arith))

pub overflow_add-x : goal.overflow_add-x
overflow_add-x c =
    let l = c.loop-byte in
    let a = c.args in
    omega (arith, four_at_most l.byte-index (omega arith), c.type_inv.s (a.at + l.byte-index), get_or-between a.s.now a.at (a.at + a.w) l.byte-index 0 (omega arith))

pub loop-byte-preserved : goal.loop-byte-preserved
loop-byte-preserved c =
    let l = c.loop-byte in
    let a = c.args in
    let e = get_or-between a.s.now a.at (a.at + a.w) l.byte-index 0 (omega arith) in
    let b : get_or a.s.now (a.at + l.byte-index) 0 < 256 = omega (arith, c.type_inv.s (a.at + l.byte-index)) in
    rw e (cc (be_more a.s.now a.at l.byte-index), step_below l.byte-index l.x (get_or a.s.now (a.at + l.byte-index) 0) l.invariant.1 b)
