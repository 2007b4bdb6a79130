use native.Mathlib.Omega.{arith}
use Rattle.common.proofs.Runs.{filling_none, filling_more}
use Rattle.pnet_plan.proofs.Bytes.{Here, here}
use Rattle.pnet_late.proofs.Small.{Small, stays_small}
use Rattle.pnet_bounds.proofs.Bounded.{Placed, placed}
use Rattle.pnet_bounds.proofs.by_stream.Goals as goal
use Rattle.pnet_bounds.proofs.by_stream.Goals.{After-pnet_stream_at-met}

pub loop-i-init : goal.loop-i-init
loop-i-init c =
    record {
      stands = c.requires.ready.0.starts;
      masters = filling_none _ _;
      bound = filling_none _ _;
      spacing = filling_none _ _;
      jitter = filling_none _ _;
    }

-- what is met is stream i + 1
its : (c : After-pnet_stream_at-met)
    → Here c.args.s.now c.loop-i.i c.pnet_stream_at-met.result
its c =
    let l = c.loop-i in
    here c.requires.ready.0 l.i l.at c.pnet_stream_at-met.result (omega arith) l.invariant.stands
    c.pnet_stream_at-met.ensures

-- its master and what is multiplied for its bound are small
small : (c : After-pnet_stream_at-met)
    → Small c.loop-i.i c.args.counts.now c.args.turn
    c.pnet_stream_at-met.result.found
small c =
    let start = c in
    stays_small start.requires.ready.0 start.args.counts.now start.args.turn start.requires.turn_value.0 start.requires.turn_value.1 c.loop-i.i c.pnet_stream_at-met.result (omega arith) (its c)

-- and its master, bound, spacing and jitter are those that the code has
stream : (c : After-pnet_stream_at-met)
    → Placed c.args.s.now c.loop-i.i c.args.counts.now c.args.turn
    c.pnet_stream_at-met.result.found
stream c =
    let start = c in
    placed start.requires.ready.0 start.args.counts.now start.args.turn start.requires.turn_value.0 start.requires.turn_value.1 c.loop-i.i c.pnet_stream_at-met.result (omega arith) (its c)

pub overflow_cast-masters : goal.overflow_cast-masters
overflow_cast-masters c = omega (arith, small (goal.at.overflow_cast-masters c).After-pnet_stream_at-met)

pub bounds-counts-r : goal.bounds-counts-r
bounds-counts-r c = omega (arith, small (goal.at.bounds-counts-r c).After-pnet_stream_at-met)

pub overflow_mul-bound : goal.overflow_mul-bound
overflow_mul-bound c = omega (arith, small (goal.at.overflow_mul-bound c).After-pnet_stream_at-met)

pub loop-i-preserved : goal.loop-i-preserved
loop-i-preserved c =
    let x = c in
    let l = x.loop-i in
    let w = stream (goal.at.loop-i-preserved x).After-pnet_stream_at-met in
    let fits = x.requires.ready in
    record {
      stands = (its (goal.at.loop-i-preserved x).After-pnet_stream_at-met).next;
      masters = filling_more _ l.invariant.masters (omega (arith, fits.1)) w.master;
      bound = filling_more _ l.invariant.bound (omega (arith, fits.2)) w.bounds;
      spacing = filling_more _ l.invariant.spacing (omega (arith, fits.3)) w.spaced;
      jitter = filling_more _ l.invariant.jitter (omega (arith, fits.4)) w.jittered;
    }
