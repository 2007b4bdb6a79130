use mathlib.Core.Path.{ap}
use native.Mathlib.Omega.{arith}
use Rattle.common.proofs.Runs.{filling_none, filling_more}
use Rattle.pnet_rules.specs.Segment.{Stream}
use Rattle.pnet_plan.proofs.Bytes.{Here, here, its_master}
use Rattle.pnet_urgent_streams.proofs.by_deadline.Goals as goal
use Rattle.pnet_urgent_streams.proofs.by_deadline.Goals.{After-pnet_stream_at-met}

pub loop-i-init : goal.loop-i-init
loop-i-init c = (c.requires.0.starts, filling_none _ _, filling_none _ _)

-- what is met is stream i + 1
its : (c : After-pnet_stream_at-met) → Here c.args.s.now c.loop-i.i c.pnet_stream_at-met.result
its c =
    let l = c.loop-i in
    here c.requires.0 l.i l.at c.pnet_stream_at-met.result (omega arith) l.invariant.0 c.pnet_stream_at-met.ensures

pub overflow_cast-masters : goal.overflow_cast-masters
overflow_cast-masters c = omega (arith, its_master c.requires.0 (omega arith) c.pnet_stream_at-met.result (its (goal.at.overflow_cast-masters c).After-pnet_stream_at-met))

pub loop-i-preserved : goal.loop-i-preserved
loop-i-preserved c =
    let l = c.loop-i in
    let met = its (goal.at.loop-i-preserved c).After-pnet_stream_at-met in
    let fits = c.requires in (
      met.next,
      filling_more _ l.invariant.1 (omega (arith, fits.1)) (ap (λ (z : Stream). z.master) met.stream),
      filling_more _ l.invariant.2 (omega (arith, fits.2)) (ap (λ (z : Stream). z.deadline) met.stream),
    )
