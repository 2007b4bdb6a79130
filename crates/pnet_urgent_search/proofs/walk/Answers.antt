use mathlib.Core.Path.{refl, ◌∙◌}
use native.Mathlib.Omega.{arith}
use Rattle.pnet_urgent_search.proofs.Carries.{carried_of}
use Rattle.pnet_urgent_search.proofs.Blocks.{passing_none, passing_more, slow, laid_block, walking_sound}
use Rattle.pnet_urgent_search.proofs.walk.Goals as goal

pub set_out-requires : goal.set_out-requires
set_out-requires c =
    let s = c in
    (slow s.requires.urgency.0 s.requires.urgency.1, omega (arith, s.requires.urgency.0.few, s.requires.urgency.1.to), omega (arith, s.requires.urgency.0.few, s.requires.urgency.1.to))

pub loop-a-init : goal.loop-a-init
loop-a-init c =
    let p = c.requires in
    let f = c.set_out in
    (f.auto.nexts, f.auto.rests, passing_none p.urgency.0 p.urgency.1 p.urgency.2 p.walks_in_bounds.2 f.ensures refl)

pub lay-requires-clause-slow : goal.lay-requires-clause-slow
lay-requires-clause-slow c =
    let p = c.requires in
    let on = c.loop-a.invariant.2 in
    (slow p.urgency.0 p.urgency.1, omega (arith, on.early), on.table_long)

pub carry_all-last-requires-clause-le_turn : goal.carry_all-last-requires-clause-le_turn
carry_all-last-requires-clause-le_turn c =
    let p = c.requires in
    let on = c.loop-a.invariant.2 in
    let u = p.urgency.0 in (
      u.turn_from,
      omega (arith, u.deadlines, u.few),
      omega (arith, u.deadlines, p.urgency.2),
      omega (arith, p.walks_in_bounds.0, on.apart.slots_long),
      omega (arith, p.walks_in_bounds.1, on.apart.rounds_long),
      laid_block u p.urgency.1 p.urgency.2 c.lay.ensures.laid (omega (arith, on.early)),
    )

pub carry_all-last-requires-clause-by_index : goal.carry_all-last-requires-clause-by_index
carry_all-last-requires-clause-by_index c =
    let p = c.requires in
    walking_sound p.urgency.0 p.urgency.1 p.urgency.2 c.loop-a.invariant.2.walking

pub loop-a-preserved : goal.loop-a-preserved
loop-a-preserved c =
    let p = c.requires in
    let l = c.loop-a in
    let f = c.lay in
    let g = c.carry_all-last in (
      f.auto.nexts ∙ l.invariant.0,
      f.auto.rests ∙ l.invariant.1,
      passing_more p.urgency.0 p.urgency.1 p.urgency.2 f.ensures.laid _ _ l.invariant.2 f.ensures.due_2 (carried_of g.ensures _ p.urgency.0.deadlines) (omega arith),
    )
