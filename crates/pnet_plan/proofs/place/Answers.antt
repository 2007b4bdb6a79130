use mathlib.Core.Path.{◌≡◌, ap, ◌∙◌, subst}
use Prim.Native.Nat.{ℕ, ◌+◌, ◌*◌, ◌≤◌}
use native.Mathlib.Nat.{mul-le-mul}
use native.Mathlib.Omega.{arith}
use borrow.Author.Count.{below_more}
use lib.ListN.{length, set, length-set}
use Rattle.common.specs.Sums.{first_of}
use Rattle.common.proofs.Firsts.{first_here, first_nowhere}
use Rattle.pnet_rules.specs.Segment.{late}
use Rattle.pnet_rules.proofs.Holds.{turn_at_most}
use Rattle.pnet_plan.specs.Planned.{first_late}
use Rattle.pnet_turn.specs.Turn.{at}
use Rattle.pnet_plan.specs.Arrays.{segment_in, Grouped}
use Rattle.pnet_plan.proofs.Bytes.{Here, Small, declares, number_is, here, its_master, its_late, its_not_late, its_jitter, small, grouped_next}
use Rattle.pnet_plan.proofs.place.Goals as goal
use Rattle.pnet_plan.proofs.place.Goals.{After-pnet_stream_at-met}

-- what is met is stream i + 1
its : (c : After-pnet_stream_at-met)
    → Here c.args.s.now c.loop-i.i c.pnet_stream_at-met.result
its c =
    let l = c.loop-i in
    here c.requires.ready.0 l.i l.at c.pnet_stream_at-met.result (omega arith) l.invariant.stands c.pnet_stream_at-met.ensures

-- of one of the masters
master : (c : After-pnet_stream_at-met) → c.pnet_stream_at-met.result.found.a ≤ 32
master c = its_master c.requires.ready.0 (omega arith) c.pnet_stream_at-met.result (its c)

-- and there is a place for it
few : (c : After-pnet_stream_at-met)
    → Small c.pnet_stream_at-met.result.found.a (at c.loop-i.ends c.pnet_stream_at-met.result.found.a) (length c.loop-i.pairs)
few c = small c.requires.ready.0 (omega arith) c.pnet_stream_at-met.result (its c) c.loop-i.invariant.grouped

pub bounds-counts-m : goal.bounds-counts-m
bounds-counts-m c = omega (arith, master (goal.at.bounds-counts-m c).After-pnet_stream_at-met)

-- its master's count and V are small
count_small : (c : After-pnet_stream_at-met) → at c.args.counts.now c.pnet_stream_at-met.result.found.a ≤ 80
count_small c =
    let p = c.requires in
    omega (arith, p.turn_value.1 c.pnet_stream_at-met.result.found.a (master c), (declares p.ready.0).counts c.pnet_stream_at-met.result.found.a)

v-small : (c : After-pnet_stream_at-met) → c.args.turn ≤ 51040
v-small c =
    let a = c.args in
    let p = c.requires in
    omega (arith, p.turn_value.0, turn_at_most (segment_in a.s.now) (declares p.ready.0))

pub overflow_mul-bound : goal.overflow_mul-bound
overflow_mul-bound c =
    let r = c in
    let a = r.args in
    omega (arith, mul-le-mul {n₁ = at a.counts.now r.pnet_stream_at-met.result.found.a} {m₁ = a.turn} {n₂ = 80} {m₂ = 51040} (count_small (goal.at.overflow_mul-bound r).After-pnet_stream_at-met) (v-small (goal.at.overflow_mul-bound r).After-pnet_stream_at-met))

pub returns-then-r-bound : goal.returns-then-r-bound
unfolding first_late
returns-then-r-bound c =
    let r = c in
    let l = r.loop-i in
    let a = r.args in
    let p = r.requires in
    let S = segment_in a.s.now in
    let hit = its_late p.ready.0 (omega arith) r.pnet_stream_at-met.result (its (goal.at.returns-then-r-bound r).After-pnet_stream_at-met) a.counts.now a.turn p.turn_value.1 p.turn_value.0 c.if-r-bound.true in
    (first_here (late S) S.number l.i l.invariant.in_time (omega (arith, number_is p.ready.0)) hit, λ over. absurd (omega arith))

pub bounds-ends-m : goal.bounds-ends-m
bounds-ends-m c = omega (arith, master (goal.at.bounds-ends-m c).After-pnet_stream_at-met)

pub bounds-pairs-p : goal.bounds-pairs-p
bounds-pairs-p c = omega (arith, few (goal.at.bounds-pairs-p c).After-pnet_stream_at-met)

pub bounds-pairs-p-in-loop-i : goal.bounds-pairs-p-in-loop-i
bounds-pairs-p-in-loop-i c =
    let r = c in
    let f = r.pnet_stream_at-met.result.found in
    let l = r.loop-i in
    omega (arith, few (goal.at.bounds-pairs-p-in-loop-i r).After-pnet_stream_at-met, length-set l.pairs (2 * at l.ends f.a) f.c)

pub overflow_add-ends : goal.overflow_add-ends
overflow_add-ends c = omega (arith, few (goal.at.overflow_add-ends c).After-pnet_stream_at-met)

pub bounds-ends-m-in-loop-i : goal.bounds-ends-m-in-loop-i
bounds-ends-m-in-loop-i c = omega (arith, few (goal.at.bounds-ends-m-in-loop-i c).After-pnet_stream_at-met)

pub bounds-slacks-m : goal.bounds-slacks-m
bounds-slacks-m c = omega (arith, few (goal.at.bounds-slacks-m c).After-pnet_stream_at-met)

-- J is below T
pub overflow_sub-r : goal.overflow_sub-r
overflow_sub-r c =
    let r = c in
    omega (arith, its_jitter r.requires.ready.0 (omega arith) r.pnet_stream_at-met.result (its (goal.at.overflow_sub-r r).After-pnet_stream_at-met))

pub bounds-slacks-m-in-loop-i : goal.bounds-slacks-m-in-loop-i
bounds-slacks-m-in-loop-i c = omega (arith, few (goal.at.bounds-slacks-m-in-loop-i c).After-pnet_stream_at-met)

pub loop-i-preserved : goal.loop-i-preserved
loop-i-preserved c =
    let r = c in
    let l = r.loop-i in
    let a = r.args in
    let p = r.requires in
    let f = r.pnet_stream_at-met.result.found in
    let place = 2 * at l.ends f.a in
    let its_here = its (goal.at.loop-i-preserved r).After-pnet_stream_at-met in
    record {
      stands = its_here.next;
      grouped = grouped_next p.ready.0 (omega arith) r.pnet_stream_at-met.result its_here l.invariant.grouped c.min.result (omega arith);
      in_time = below_more _ _ l.invariant.in_time (its_not_late p.ready.0 (omega arith) r.pnet_stream_at-met.result its_here a.counts.now a.turn p.turn_value.1 p.turn_value.0 (omega (arith, c.if-r-bound.false)));
      long = length-set (set l.pairs place f.c) (place + 1) f.e ∙ (length-set l.pairs place f.c ∙ l.invariant.long);
    }

pub returns : goal.returns
unfolding first_late
returns c =
    let l = c.loop-i in
    let a = c.args in
    let p = c.requires in
    let S = segment_in a.s.now in
    let e : l.i ≡ a.streams = omega arith in
    (first_nowhere (late S) a.streams l.i l.invariant.in_time e ∙ ap (λ (k : ℕ). first_of (late S) k 1) (number_is p.ready.0), λ over. subst (λ (k : ℕ). Grouped S k l.ends l.slacks l.pairs) e l.invariant.grouped)
