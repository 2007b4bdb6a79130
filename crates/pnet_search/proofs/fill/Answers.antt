use Prim.Native.Nat.{◌+◌}
use native.Mathlib.Omega.{arith}
use Rattle.common.proofs.Runs.{filling_none, filling_more}
use Rattle.pnet_search.proofs.Arrays.{bound_is}
use Rattle.pnet_search.proofs.fill.Goals as goal

pub loop-i-init : goal.loop-i-init
loop-i-init c = record { bound = filling_none _ _; refined = filling_none _ _; rounds = filling_none _ _ }

pub loop-i-preserved : goal.loop-i-preserved
loop-i-preserved c =
    let a = c.args in
    let p = c.requires.kept.0 in
    let l = c.loop-i in
    record {
      bound = filling_more _ l.invariant.bound (omega arith) (bound_is a.counts.now a.charges.now a.n (l.i + 1) a.turn.0 p.turn_is);
      refined = filling_more _ l.invariant.refined (omega arith) c.search-found.ensures.0;
      rounds = filling_more _ l.invariant.rounds (omega arith) c.search-found.ensures.1;
    }
