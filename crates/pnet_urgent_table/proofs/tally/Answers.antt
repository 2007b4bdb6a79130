use Prim.Native.Nat.{◌+◌, ◌-◌, ◌/◌, ◌%◌, ◌≤◌, ◌<◌}
use native.Mathlib.Nat.{mod-lt}
use native.Mathlib.Omega.{arith}
use Rattle.pnet_urgent_table.proofs.Releases.{later, carried, slots_some, slots_few}
use Rattle.pnet_urgent_table.proofs.Tallies.{tallying_none, tallying_more, tallied_asking, tallied}
use Rattle.pnet_urgent_table.proofs.tally.Goals as goal
use Rattle.pnet_urgent_table.proofs.tally.Goals.{Start}

-- T in whole slots, and what is left
few : (c : Start) → c.args.spacing / c.args.turn ≤ 20833333
few c = slots_few c.args.turn c.args.spacing c.requires.le_turn.0 c.requires.le_turn.3

some : (c : Start) → 1 ≤ c.args.spacing / c.args.turn
some c = slots_some c.args.turn c.args.spacing c.requires.le_turn.0 c.requires.le_turn.2

part_small : (c : Start) → c.args.spacing % c.args.turn < c.args.turn
part_small c = mod-lt c.args.spacing (omega arith)

pub loop-next-init : goal.loop-next-init
loop-next-init c =
    let p = c.requires.a_le_next in
    tallying_none c.args.spacing c.args.table.now p.0 p.1 p.2 c.requires.table_len.0

pub overflow_add-table : goal.overflow_add-table
overflow_add-table c =
    let s = c in
    let l = c.loop-next in
    let t = l.next - s.args.a in
    omega (arith, l.invariant.ahead t (omega arith), s.requires.table_len.1 t (omega arith))

pub overflow_add-next : goal.overflow_add-next
overflow_add-next c = omega (arith, few (goal.at.overflow_add-next c).Start)

pub overflow_add-rest : goal.overflow_add-rest
overflow_add-rest c = omega (arith, part_small (goal.at.overflow_add-rest c).Start)

pub overflow_add-next-then-rest-turn : goal.overflow_add-next-then-rest-turn
overflow_add-next-then-rest-turn c = omega (arith, few (goal.at.overflow_add-next-then-rest-turn c).Start)

pub loop-next-preserved-then-rest-turn : goal.loop-next-preserved-then-rest-turn
loop-next-preserved-then-rest-turn c =
    let s = c in
    let l = c.loop-next in
    let V' = s.args.turn in
    let T' = s.args.spacing in
    let step = carried V' (l.next + T' / V') (l.rest + T' % V') _ (omega arith) (later V' T' l.next l.rest) in
    tallying_more l.invariant s.requires.le_turn.2 (omega arith) _ _ (omega (arith, part_small (goal.at.loop-next-preserved-then-rest-turn s).Start)) (omega (arith, step)) s.requires.le_turn.0 s.requires.le_turn.3 (omega arith)

pub loop-next-smaller : goal.loop-next-smaller
loop-next-smaller c = omega (arith, some (goal.at.loop-next-smaller c).Start)

pub loop-next-preserved : goal.loop-next-preserved
loop-next-preserved c =
    let s = c in
    let l = c.loop-next in
    let step = later s.args.turn s.args.spacing l.next l.rest in
    tallying_more l.invariant s.requires.le_turn.2 (omega arith) _ _ (omega arith) (omega (arith, step)) s.requires.le_turn.0 s.requires.le_turn.3 (omega arith)

pub returns : goal.returns
returns c =
    let on = c.loop-next.invariant in
    record {
      by_index = λ J asking. tallied_asking on (omega arith) J asking;
      by_index_2 = λ J asking. tallied on (omega arith) J asking;
    }
