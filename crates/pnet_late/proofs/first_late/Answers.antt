use mathlib.Core.Path.{◌≡◌, ap, ◌∙◌}
use Prim.Native.Nat.{ℕ}
use native.Mathlib.Omega.{arith}
use borrow.Author.Count.{below_more}
use Rattle.common.specs.Sums.{first_of}
use Rattle.common.proofs.Firsts.{first_here, first_nowhere}
use Rattle.pnet_rules.specs.Segment.{late}
use Rattle.pnet_plan.specs.Planned.{first_late}
use Rattle.pnet_plan.specs.Arrays.{segment_in}
use Rattle.pnet_plan.proofs.Bytes.{Here, here, number_is, streams_few, its_late, its_not_late}
use Rattle.pnet_late.proofs.Small.{Small, stays_small}
use Rattle.pnet_late.proofs.first_late.Goals as goal
use Rattle.pnet_late.proofs.first_late.Goals.{After-pnet_stream_at-met}

-- what is met is stream i + 1
its : (c : After-pnet_stream_at-met)
    → Here c.args.s.now c.loop-i.i c.pnet_stream_at-met.result
its c =
    let l = c.loop-i in
    here c.requires.ready l.i l.at c.pnet_stream_at-met.result (omega arith) l.invariant.stands c.pnet_stream_at-met.ensures

stream : (c : After-pnet_stream_at-met)
    → Small c.loop-i.i c.args.counts.now c.args.turn c.pnet_stream_at-met.result.found
stream c =
    let start = c in
    stays_small start.requires.ready start.args.counts.now start.args.turn start.requires.turn_value.0 start.requires.turn_value.1 c.loop-i.i c.pnet_stream_at-met.result (omega arith) (its c)

pub bounds-counts-r : goal.bounds-counts-r
bounds-counts-r c = omega (arith, stream (goal.at.bounds-counts-r c).After-pnet_stream_at-met)

pub overflow_mul-bound : goal.overflow_mul-bound
overflow_mul-bound c = omega (arith, stream (goal.at.overflow_mul-bound c).After-pnet_stream_at-met)

pub returns-then-r-bound : goal.returns-then-r-bound
unfolding first_late
returns-then-r-bound c =
    let r = c in
    let l = r.loop-i in
    let a = r.args in
    let p = r.requires in
    let S = segment_in a.s.now in
    let hit = its_late p.ready (omega arith) r.pnet_stream_at-met.result (its (goal.at.returns-then-r-bound r).After-pnet_stream_at-met) a.counts.now a.turn p.turn_value.1 p.turn_value.0 c.if-r-bound.true in
    first_here (late S) S.number l.i l.invariant.in_time (omega (arith, number_is p.ready)) hit

pub loop-i-preserved : goal.loop-i-preserved
loop-i-preserved c =
    let r = c in
    let l = r.loop-i in
    let a = r.args in
    let p = r.requires in
    let its_here = its (goal.at.loop-i-preserved r).After-pnet_stream_at-met in
    record {
      stands = its_here.next;
      in_time = below_more _ _ l.invariant.in_time (its_not_late p.ready (omega arith) r.pnet_stream_at-met.result its_here a.counts.now a.turn p.turn_value.1 p.turn_value.0 (omega (arith, c.if-r-bound.false)));
    }

pub overflow_add-result-2 : goal.overflow_add-result-2
overflow_add-result-2 c = omega (arith, streams_few c.requires.ready)

pub returns : goal.returns
unfolding first_late
returns c =
    let l = c.loop-i in
    let a = c.args in
    let p = c.requires in
    let S = segment_in a.s.now in
    let e : l.i ≡ a.n = omega arith in
    first_nowhere (late S) a.n l.i l.invariant.in_time e ∙ ap (λ (k : ℕ). first_of (late S) k 1) (number_is p.ready)
