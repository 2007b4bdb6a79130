use Prim.Native.Nat.{◌+◌}
use native.Mathlib.Omega.{arith}
use Rattle.pnet_urgent_table.proofs.Blocks.{adding_none, adding_next, adding_more}
use Rattle.pnet_urgent_table.proofs.add_up.Goals as goal

pub loop-x-init : goal.loop-x-init
loop-x-init c = adding_none c.args.base _ c.args.table.now (omega arith) c.requires.0

pub overflow_add-total : goal.overflow_add-total
overflow_add-total c =
    let l = c.loop-x in
    omega (arith, adding_next l.invariant, c.requires.1 (l.x-index + 1) (omega arith))

pub loop-x-preserved : goal.loop-x-preserved
loop-x-preserved c = adding_more c.loop-x.invariant (omega arith)
