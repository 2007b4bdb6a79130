use Prim.Native.Nat.{◌-◌}
use native.Mathlib.Nat.{div-add-mod, mod-lt}
use native.Mathlib.Omega.{arith}
use lib.ListN.{length-set}
use Rattle.pnet_turn.specs.Turn.{at}
use Rattle.pnet_urgent_table.proofs.Releases.{first}
use Rattle.pnet_urgent_table.proofs.Blocks.{due_more}
use Rattle.pnet_urgent_table.proofs.set_out.Goals as goal

pub loop-j-preserved : goal.loop-j-preserved
loop-j-preserved c =
    let s = c in
    let l = c.loop-j in
    let T' = at s.args.spacings.now l.j in
    let J' = at s.args.jitters.now l.j in
    let V' = s.args.turn in
    let asking = first V' T' J' (s.requires.0.jitter_to l.j (omega arith)) s.requires.0.turn_from (s.requires.0.spacing_to l.j (omega arith)) in (
      simp length-set l.invariant.0,
      simp length-set l.invariant.1,
      due_more l.invariant.2 (omega arith) (omega arith) _ _ (asking _ _ (mod-lt _ (omega arith)) (omega (arith, div-add-mod (T' - J') V', s.requires.0.jitter_to l.j (omega arith)))),
    )
