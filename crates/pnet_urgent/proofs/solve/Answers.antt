use mathlib.Core.Path.{◌≡◌, refl, ◌∙◌, subst}
use Prim.Native.Nat.{ℕ, ◌+◌, ◌-◌, ◌≤◌}
use native.Mathlib.Omega.{arith}
use Rattle.pnet_turn.specs.Turn.{at}
use Rattle.pnet_plan.specs.Arrays.{segment_in}
use Rattle.pnet_plan.proofs.Bytes.{declares, number_is, streams_few}
use Rattle.pnet_urgent.specs.Masters.{Solved}
use Rattle.pnet_urgent.proofs.Solving.{Lined, lined, solved_none, Next, next, serve_keyed, serve_ranged, serve_solved}
use Rattle.pnet_urgent.proofs.solve.Goals as goal
use Rattle.pnet_urgent.proofs.solve.Goals.{After-order, After-serve}

pub order-requires-clause-ends_len : goal.order-requires-clause-ends_len
order-requires-clause-ends_len c =
    let few = streams_few c.requires.ready.0 in
    (omega arith, omega arith, omega arith, omega arith)

-- the streams are in order
line : (c : After-order)
    → Lined (segment_in c.args.s.now) c.order.new.ends c.order.new.keys c.order.new.spacings c.order.new.jitters c.args.counts.now
line c =
    let p = c.requires.ready in
    let e = c.order.ensures in
    lined p.0 _ _ e.ordered e.spacings_after e.jitters_after p.2

pub loop-y-init : goal.loop-y-init
loop-y-init c = (solved_none _ (declares c.requires.ready.0) _ _ _, refl, refl, refl)

pub bounds-counts-y : goal.bounds-counts-y
bounds-counts-y c =
    let p = c.requires.ready in
    omega (arith, p.1, (declares p.0).masters_to)

-- master y's numbers
own : (c : After-order) (y : ℕ) → 1 ≤ y → y ≤ c.args.all → Next (at c.args.counts.now y) (at c.order.new.ends y) y
own c y one l = next (line c) y one (omega (arith, c.requires.ready.1))

pub offset_bounds-ends-y : goal.offset_bounds-ends-y
offset_bounds-ends-y c = omega (arith, own (goal.at.offset_bounds-ends-y c).After-order c.loop-y.y c.loop-y.auto.y (omega arith))

pub bounds-ends-y : goal.bounds-ends-y
bounds-ends-y c = omega (arith, c.order.ensures.ordered.ends_long, own (goal.at.bounds-ends-y c).After-order c.loop-y.y c.loop-y.auto.y (omega arith))

pub overflow_sub-start : goal.overflow_sub-start
overflow_sub-start c = omega (arith, own (goal.at.overflow_sub-start c).After-order c.loop-y.y c.loop-y.auto.y (omega arith))

pub serve-requires-clause-keyed : goal.serve-requires-clause-keyed
serve-requires-clause-keyed c =
    let p = c.requires in
    let h = line (goal.at.serve-requires-clause-keyed c).After-order in
    let l = c.loop-y in
    let few = streams_few p.ready.0 in
    let number = number_is p.ready.0 in
    (serve_keyed h l.y l.auto.y (omega (arith, p.ready.1)) _ (omega arith), serve_ranged h l.y l.auto.y (omega (arith, p.ready.1)) _ p.turn_value.0)

pub serve-requires-clause-keyed_2 : goal.serve-requires-clause-keyed_2
serve-requires-clause-keyed_2 c =
    let p = c.requires in
    let h = line (goal.at.serve-requires-clause-keyed_2 c).After-order in
    let l = c.loop-y in
    let number = number_is p.ready.0 in
    serve_keyed h l.y l.auto.y (omega (arith, p.ready.1)) _ (omega (arith, p.turn_value, l.invariant))

-- its streams have their figures
served : (c : After-serve) → Lined (segment_in c.args.s.now) c.order.new.ends c.order.new.keys c.order.new.spacings c.order.new.jitters c.args.counts.now
    → Solved (segment_in c.args.s.now) c.loop-y.y c.serve.new.places c.serve.new.figures c.serve.new.rounds
served c h =
    let p = c.requires in
    let l = c.loop-y in
    serve_solved h l.y l.auto.y (omega (arith, p.ready.1)) _ p.turn_value.0 c.serve.ensures l.invariant.0

pub loop-y-preserved : goal.loop-y-preserved
loop-y-preserved c =
    let l = c.loop-y in
    let new = c.serve.new in
    let e = c.serve.ensures in
    let more : l.y ≡ l.y + 1 - 1 = omega arith in (
      subst (λ (k : ℕ). Solved (segment_in c.args.s.now) k new.places new.figures new.rounds) more (served (goal.at.loop-y-preserved c).After-serve (line (goal.at.loop-y-preserved c).After-order)),
      e.by_place.long ∙ l.invariant.1,
      e.by_figure.long ∙ l.invariant.2,
      e.by_rounds.long ∙ l.invariant.3,
    )

pub returns-2 : goal.returns-2
returns-2 c =
    let new = c.serve.new in
    let all : c.loop-y.y ≡ c.args.all = omega arith in
    subst (λ (k : ℕ). Solved (segment_in c.args.s.now) k new.places new.figures new.rounds) all (served (goal.at.returns-2 c).After-serve (line (goal.at.returns-2 c).After-order))
