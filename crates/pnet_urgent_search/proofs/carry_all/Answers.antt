use native.Mathlib.Omega.{arith}
use Rattle.pnet_turn.specs.Turn.{at}
use Rattle.pnet_urgent_search.proofs.Carries.{most_small, carried_more}
use Rattle.pnet_urgent_search.proofs.carry_all.Goals as goal

pub loop-i-preserved : goal.loop-i-preserved
loop-i-preserved c =
    let s = c in
    let l = c.loop-i in
    let f = c.carry-stood in
    let own = c.own-c in
    let small = most_small (at s.args.deadlines.now l.i) s.args.turn (s.requires.by_index l.i (omega arith)).0 (omega arith) in
    carried_more _ _ _ _ _ own.result f.result.slot f.result.rounds _ l.invariant (omega arith) (omega arith) own.ensures.0
    (omega (arith, f.ensures.0)) (cc) f.ensures.1
