use native.Mathlib.Omega.{arith}
use Rattle.pnet_crossing.specs.Cost.{kept}
use Rattle.pnet_crossing.proofs.Laws.{segment_none, segment_more, gateway_none, gateway_more}
use Rattle.pnet_crossing.proofs.+gateway_step_segment_step.Goals as goal

pub segment_step-returns-then-left-eq0 : goal.segment_step-returns-then-left-eq0
segment_step-returns-then-left-eq0 t c = (segment_none _ _ c.args.left c.args.i c.if-left-eq0.true, omega arith)

pub segment_step-returns : goal.segment_step-returns
segment_step-returns t c =
    let a = c.args in
    let e = segment_more (kept a.bounds) (kept a.times) a.left a.i c.if-left-eq0.false in
    (omega (arith, e), omega arith)

pub gateway_step-returns-then-left-eq0 : goal.gateway_step-returns-then-left-eq0
gateway_step-returns-then-left-eq0 t c = (gateway_none _ _ c.args.left c.args.i c.if-left-eq0.true, omega arith)

pub gateway_step-returns : goal.gateway_step-returns
gateway_step-returns t c =
    let a = c.args in
    let e = gateway_more (kept a.bounds) (kept a.times) a.left a.i c.if-left-eq0.false in
    (omega (arith, e), omega arith)
