use mathlib.Core.Path.{refl}
use native.Mathlib.Omega.{arith}
use Rattle.common.proofs.Runs.{filling_none, filling_more, filling_done}
use Rattle.worldfip_plan.proofs.rows.copy.Goals as goal

pub loop-m-init : goal.loop-m-init
loop-m-init c = filling_none _ c.args.out.now

pub loop-m-preserved : goal.loop-m-preserved
loop-m-preserved c = filling_more _ c.loop-m.invariant (omega arith) refl

pub returns : goal.returns
returns c = filling_done c.args.n c.loop-m.invariant (omega arith)
