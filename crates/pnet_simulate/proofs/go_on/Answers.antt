use mathlib.Core.Path.{refl, sym, ap, ◌∙◌}
use native.Mathlib.Omega.{arith}
use Rattle.pnet_simulate.specs.Simulated.{visited, visited_times}
use Rattle.pnet_simulate.proofs.Visits.{visited_times_more}
use Rattle.pnet_simulate.proofs.go_on.Goals as goal

pub loop-init : goal.loop-init
unfolding visited_times
loop-init c = record { stands = refl; early = omega arith; master = omega arith; long = refl }

pub loop-preserved : goal.loop-preserved
loop-preserved c =
    let a = c.args in
    let l = c.loop in
    let v = c.visit-stage in
    record {
      stands = v.ensures.0 ∙ (ap (visited a.n a.owner.now a.cycle.now) l.invariant.stands ∙ sym (visited_times_more a.n a.owner.now a.cycle.now _ l.counter));
      early = omega arith;
      master = v.ensures.2;
      long = v.auto.answered ∙ l.invariant.long;
    }
