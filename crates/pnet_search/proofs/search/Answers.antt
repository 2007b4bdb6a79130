use mathlib.Core.Path.{refl}
use Prim.Native.Nat.{ℕ, ◌+◌, ◌-◌, ◌*◌, ◌≤◌}
use native.Mathlib.Omega.{arith}
use Rattle.pnet_rules.proofs.Sequence.{moving_none, moving_more}
use Rattle.pnet_turn.specs.Turn.{at}
use Rattle.pnet_search.specs.Arrays.{right_in}
use Rattle.pnet_search.proofs.Arrays.{turn_small, moving_small, moving_few, moving_rises, rounds_small, found}
use Rattle.pnet_search.proofs.Searching.{fresh_opens, fresh_later}
use Rattle.pnet_search.proofs.search.Goals as goal
use Rattle.pnet_search.proofs.search.Goals.{Else-next-w, Start}

-- the right side of the search
abbrev right : Start → ℕ → ℕ
right c = right_in c.args.counts.now c.args.charges.now c.args.ends.now c.args.pairs.now c.args.n c.args.k

pub begin-requires : goal.begin-requires
begin-requires c =
    let k = c.args.k in
    let p = c.requires in
    record {
      n_bound = (p.2.few, turn_small p.2, omega (arith, p.2.few), (p.2.each k p.0 p.1).count_to, refl, refl);
      by_index = λ y lo hi. ((p.2.each y lo hi).count_to, (p.2.each y lo hi).charge_from, (p.2.each y lo hi).charge_to, p.3.covers y lo hi);
    }

pub loop-w-init : goal.loop-w-init
loop-w-init c =
    let p = c.requires in
    let e = c.begin.ensures in
    (moving_none 0 (right (goal.at.loop-w-init c).Start), fresh_opens p.2 p.3 p.0 p.1 e.0 e.1 e.2)

pub right_of-next-requires : goal.right_of-next-requires
right_of-next-requires c =
    let k = c.args.k in
    let p = c.requires in
    let l = c.loop-w in
    record { le_k = (p.0, p.1, moving_small p.2 k p.0 p.1 l.rounds l.w l.invariant.0, p.2); fresh = l.invariant.1 }

pub returns-then-next-w : goal.returns-then-next-w
returns-then-next-w c =
    let k = c.args.k in
    let p = c.requires in
    let l = c.loop-w in
    let f = c.right_of-next in
    found p.2 k p.0 p.1 l.rounds l.w f.result l.invariant.0 f.ensures.value c.if-next-w.true

-- how often it moves at most
few : (c : Else-next-w) → c.loop-w.rounds ≤ 1 + (c.args.n - 1) * at c.args.counts.now c.args.k
few c =
    let p = c.requires in
    let l = c.loop-w in
    moving_few p.2 c.args.k p.0 p.1 l.rounds l.w l.invariant.0

pub overflow_add-rounds : goal.overflow_add-rounds
overflow_add-rounds c =
    let p = c.requires in
    omega (arith, few (goal.at.overflow_add-rounds c).Else-next-w, rounds_small p.2 c.args.k p.0 p.1)

pub loop-w-smaller : goal.loop-w-smaller
loop-w-smaller c = omega (arith, few (goal.at.loop-w-smaller c).Else-next-w)

pub loop-w-preserved : goal.loop-w-preserved
loop-w-preserved c =
    let k = c.args.k in
    let p = c.requires in
    let l = c.loop-w in
    let f = c.right_of-next in (
      moving_more 0 (right (goal.at.loop-w-preserved c).Start) l.rounds l.w f.result l.invariant.0 f.ensures.value c.if-next-w.false,
      fresh_later f.ensures.fresh_2 f.result (moving_rises p.2 k p.0 p.1 l.rounds l.w f.result l.invariant.0 f.ensures.value),
    )
