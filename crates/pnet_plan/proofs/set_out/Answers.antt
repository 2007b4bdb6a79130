use Prim.Native.Nat.{◌≤◌}
use native.Mathlib.Omega.{arith}
use Rattle.common.proofs.Sums.{upto_none}
use Rattle.pnet_turn.specs.Turn.{at, charged_in}
use Rattle.pnet_turn.proofs.Charges.{charge_is, upto_next}
use Rattle.pnet_plan.proofs.Masters.{set_out_none, set_out_next}
use Rattle.pnet_plan.proofs.set_out.Goals as goal
use Rattle.pnet_plan.proofs.set_out.Goals.{After-charge_of-charge}

pub loop-y-init : goal.loop-y-init
loop-y-init c =
    let a = c.args in
    let p = c.requires.charges_len in
    record {
      small = omega arith;
      behind = upto_none (at a.counts.now);
      set_out = set_out_none a.counts.now (charged_in a.counts.now a.longests.now a.n a.edition) a.charges.now a.ends.now p.0 p.1;
    }

-- a master has at most 80 streams
few : (c : After-charge_of-charge) → at c.args.counts.now c.loop-y.y ≤ 80
few c =
    let p = c.requires.n_bound in
    p.1 c.loop-y.y (omega (arith, p.0))

pub loop-y-preserved : goal.loop-y-preserved
loop-y-preserved c =
    let l = c.loop-y in
    let a = c.args in
    let p = c.requires.n_bound in
    let f = c.floor_of-floor in
    let charged = charge_is a.counts.now a.longests.now a.n a.edition p.2 f.result c.charge_of-charge.result l.y f.ensures c.charge_of-charge.ensures (omega arith) (omega (arith, p.0)) in
    record {
      small = omega (arith, few (goal.at.loop-y-preserved c).After-charge_of-charge);
      behind = omega (arith, upto_next (at a.counts.now) l.y (omega arith));
      set_out = set_out_next l.invariant.set_out c.charge_of-charge.result.0 l.end (omega (arith, p.0)) charged l.invariant.behind;
    }
