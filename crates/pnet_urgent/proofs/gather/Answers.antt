use mathlib.Core.Path.{refl}
use native.Mathlib.Omega.{arith}
use Rattle.common.proofs.Runs.{filling_none, filling_more}
use Rattle.pnet_urgent.proofs.Spreads.{gathered}
use Rattle.pnet_urgent.proofs.gather.Goals as goal

pub loop-r-init : goal.loop-r-init
loop-r-init c = (filling_none _ _, filling_none _ _, filling_none _ _)

pub loop-r-preserved : goal.loop-r-preserved
loop-r-preserved c =
    let l = c.loop-r in
    (filling_more _ l.invariant.0 (omega arith) refl, filling_more _ l.invariant.1 (omega arith) refl, filling_more _ l.invariant.2 (omega arith) refl)

pub returns : goal.returns
returns c =
    let on = c.loop-r.invariant in
    gathered on.0 on.1 on.2 (omega arith)
