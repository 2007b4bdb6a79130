use mathlib.Core.Path.{◌≡◌, refl, ap}
use Prim.Native.Nat.{◌+◌, ◌<◌}
use native.Mathlib.Omega.{arith}
use lib.ListN.{length-set}
use Rattle.sheet_rules.specs.Ready.{sheet_in}
use Rattle.worldfip_rules.specs.Traffic.{Variable}
use Rattle.worldfip_figures.specs.Declares.{traffic_of}
use Rattle.worldfip_figures.proofs.Turns.{front_none, front_more, front_all}
use Rattle.worldfip_figures.proofs.Passing.{ready_declared, ready_number, Stepped, stepped, none_behind}
use Rattle.worldfip_figures.proofs.gather.Goals as goal
use Rattle.worldfip_figures.proofs.gather.Goals.{After-struct_known-1}

-- the record that was met is the next variable
step : (c : After-struct_known-1) → Stepped c.requires c.loop-i.i c.variable_at-met.result
step c = stepped c.requires c.loop-i.i c.loop-i.at c.variable_at-met.result (omega arith) c.loop-i.invariant.2 c.variable_at-met.ensures

-- and there is room for it
few : (c : After-struct_known-1) → c.loop-i.i < 64
few c = omega (arith, (ready_declared c.requires).number_in, ready_number c.requires)

pub loop-i-init : goal.loop-i-init
loop-i-init c = (refl, refl, c.requires.starts, front_none _ 64, front_none _ 64)

pub overflow_cast-names : goal.overflow_cast-names
overflow_cast-names c = omega (arith, (step (goal.at.overflow_cast-names c).After-struct_known-1).small)

pub offset_bounds-names-i : goal.offset_bounds-names-i
offset_bounds-names-i c = omega (arith, few (goal.at.offset_bounds-names-i c).After-struct_known-1)

pub bounds-names-i : goal.bounds-names-i
bounds-names-i c = omega (arith, few (goal.at.bounds-names-i c).After-struct_known-1)

pub offset_bounds-periods-i : goal.offset_bounds-periods-i
offset_bounds-periods-i c = omega (arith, few (goal.at.offset_bounds-periods-i c).After-struct_known-1)

pub bounds-periods-i : goal.bounds-periods-i
bounds-periods-i c = omega (arith, few (goal.at.bounds-periods-i c).After-struct_known-1)

pub loop-i-preserved : goal.loop-i-preserved
loop-i-preserved c =
    let l = c.loop-i in
    let s = c in
    let f = few (goal.at.loop-i-preserved c).After-struct_known-1 in (
      simp length-set l.invariant.0,
      simp length-set l.invariant.1,
      (step (goal.at.loop-i-preserved c).After-struct_known-1).next,
      front_more (λ j. ((traffic_of (sheet_in s.args.s.now)).variable (j + 1)).identifier) l.names l.i _ l.invariant.3 (omega (arith, f)) (ap (λ (v : Variable). v.identifier) (step (goal.at.loop-i-preserved c).After-struct_known-1).variable),
      front_more (λ j. ((traffic_of (sheet_in s.args.s.now)).variable (j + 1)).period) l.periods l.i _ l.invariant.4 (omega (arith, f)) (ap (λ (v : Variable). v.period) (step (goal.at.loop-i-preserved c).After-struct_known-1).variable),
    )

pub returns : goal.returns
returns c =
    let l = c.loop-i in
    let s = c in
    let e : l.i ≡ s.args.n = omega arith in
    let none = none_behind s.requires in
    record {
      names_long = l.invariant.0;
      periods_long = l.invariant.1;
      names_are = front_all (λ j. ((traffic_of (sheet_in s.args.s.now)).variable (j + 1)).identifier) l.names s.args.n (rw e at l.invariant.3) (λ j k. ap (λ (v : Variable). v.identifier) (none j k));
      periods_are = front_all (λ j. ((traffic_of (sheet_in s.args.s.now)).variable (j + 1)).period) l.periods s.args.n (rw e at l.invariant.4) (λ j k. ap (λ (v : Variable). v.period) (none j k));
    }
