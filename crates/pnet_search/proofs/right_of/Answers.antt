use mathlib.Core.Path.{◌≡◌, ap, ◌∙◌}
use Prim.Native.Nat.{ℕ, ◌-◌, ◌*◌, ◌≤◌}
use native.Mathlib.Omega.{arith}
use Rattle.common.specs.Sums.{upto}
use Rattle.common.proofs.Sums.{upto_none}
use Rattle.pnet_turn.specs.Turn.{at}
use Rattle.pnet_turn.proofs.Charges.{upto_next}
use Rattle.pnet_search.specs.Arrays.{turn_in, bound_in, saved_in, right_in}
use Rattle.pnet_search.proofs.Arrays.{turn_small, saved_in_small, saved_at_most, bound_is, bound_small}
use Rattle.pnet_search.proofs.Searching.{Renewed, renewed_still, renewed_anew}
use Rattle.pnet_search.proofs.right_of.Goals as goal
use Rattle.pnet_search.proofs.right_of.Goals.{After-loop-y, In-loop-y, Joined-until-y, Start, else-until-y, then-until-y}

-- s is small
few : (c : Start) → at c.args.counts.now c.args.k ≤ 80
few c = (c.requires.le_k.3.each c.args.k c.requires.le_k.0 c.requires.le_k.1).count_to

pub loop-y-init : goal.loop-y-init
loop-y-init c =
    let a = c.args in
    record { sum = upto_none (saved_in a.counts.now a.charges.now a.ends.now a.pairs.now a.turn a.k a.w); small = omega arith; fresh = c.requires.fresh }

inside : (c : In-loop-y) → c.loop-y.y ≤ 32
inside c = omega (arith, c.requires.le_k.3.few)

pub saving_at-again-requires : goal.saving_at-again-requires
saving_at-again-requires c =
    let p = c.requires.le_k in
    (turn_small p.3, few (goal.at.saving_at-again-requires c).Start, p.2, p.3.each c.loop-y.y (omega arith) (omega arith))

-- where the two ways meet
renewed : (c : Joined-until-y)
    → Renewed c.args.counts.now c.args.charges.now c.args.ends.now c.args.pairs.now c.args.n c.args.turn c.args.k c.args.w c.loop-y.y c.if-until-y.saved c.if-until-y.until
renewed c =
    let fresh = c.loop-y.invariant.fresh in
    let y = c.loop-y.y in
    let m = c.if-until-y in
    let few = c.requires.le_k.3.few in
    elim c.if-until-y.branch [
      | then-until-y w ↦ renewed_anew fresh y m.saved m.until w.saving_at-again.result.saved w.saving_at-again.result.until (omega arith) c.requires.le_k.2 w.if-until-y.true w.saving_at-again.ensures w.saved-is w.until-is
      | else-until-y w ↦ renewed_still fresh y m.saved m.until w.if-until-y.false w.saved-is w.until-is
    ]

-- so what is added is what is saved there, and small
added : (c : Joined-until-y)
    → at c.if-until-y.saved c.loop-y.y ≡ saved_in c.args.counts.now c.args.charges.now c.args.ends.now c.args.pairs.now c.args.turn c.args.k c.args.w c.loop-y.y
added c =
    let r = renewed c in
    r.fresh.right c.loop-y.y c.args.w (omega arith) (omega arith) (omega arith) r.reaches

added-small : (c : Joined-until-y) → at c.if-until-y.saved c.loop-y.y ≤ 126800
added-small c =
    let a = c.args in
    let p = c.requires.le_k in
    let y = c.loop-y.y in
    let small = saved_in_small a.counts.now a.charges.now a.ends.now a.pairs.now a.turn a.k a.w y (p.3.each a.k p.0 p.1).count_to (p.3.each y (omega arith) (omega arith)).charge_to in
    omega (arith, added c)

pub overflow_add-all : goal.overflow_add-all
overflow_add-all c = omega (arith, added-small (goal.at.overflow_add-all c).Joined-until-y, inside (goal.at.overflow_add-all c).In-loop-y)

pub loop-y-preserved : goal.loop-y-preserved
loop-y-preserved c =
    let a = c.args in
    let j = (goal.at.loop-y-preserved c).Joined-until-y in
    let next = upto_next (saved_in a.counts.now a.charges.now a.ends.now a.pairs.now a.turn a.k a.w) c.loop-y.y (omega arith) in
    record { sum = omega (arith, added j, next); small = omega (arith, added-small j); fresh = (renewed j).fresh }

pub overflow_mul-result : goal.overflow_mul-result
overflow_mul-result c =
    let p = c.requires.le_k in
    omega (arith, bound_small p.3 c.args.k p.0 p.1)

-- after the loop: all of what is saved
done : (c : After-loop-y)
    → c.loop-y.all ≡ upto (saved_in c.args.counts.now c.args.charges.now c.args.ends.now c.args.pairs.now (turn_in c.args.charges.now c.args.n) c.args.k c.args.w) c.args.n
done c =
    let a = c.args in
    let e : c.loop-y.y - 1 ≡ a.n = omega arith in
    c.loop-y.invariant.sum
    ∙ (ap (upto (saved_in a.counts.now a.charges.now a.ends.now a.pairs.now a.turn a.k a.w)) e
    ∙ ap (λ (v : ℕ). upto (saved_in a.counts.now a.charges.now a.ends.now a.pairs.now v a.k a.w) a.n) c.requires.le_k.3.turn_is)

-- what the code multiplies is R of master k
bound : (c : Start) → at c.args.counts.now c.args.k * c.args.turn
    ≡ bound_in c.args.counts.now c.args.charges.now c.args.n c.args.k
bound c = bound_is c.args.counts.now c.args.charges.now c.args.n c.args.k c.args.turn c.requires.le_k.3.turn_is

pub overflow_sub-result : goal.overflow_sub-result
overflow_sub-result c =
    let g = goal.at.overflow_sub-result c in
    omega (arith, done g.After-loop-y, bound g.Start, saved_at_most c.requires.le_k.3 c.args.k c.args.w)

pub returns-clause-value : goal.returns-clause-value
unfolding right_in
returns-clause-value c = omega (arith, done (goal.at.returns-clause-value c).After-loop-y, bound (goal.at.returns-clause-value c).Start)
