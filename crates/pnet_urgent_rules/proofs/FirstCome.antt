-- Page 02, 'Ask 11', beside page 01, 'P-NET bounds': where no stream of a master is late with first-come queues, each of them is accepted with the urgent requests first too, and
-- its figure is at most the master's bound. So a sheet that first come accepts is never refused with 21. Assumes nothing.
use mathlib.Core.Path.{◌≡◌, refl}
use mathlib.Core.Bool.{Bool, true, false, cond}
use Prim.Native.Nat.{ℕ, ◌+◌, ◌≤◌}
use native.Mathlib.Nat.{mul_comm, mul-le-mul}
use native.Mathlib.Omega.{arith}
use lib.Dec.{eqb}
use borrow.Author.Tests.{eqb-false, le-ltb, ltb-false}
use Rattle.common.specs.Sums.{when, up}
use Rattle.common.proofs.Sums.{upto_mono, up_at_most}
use Rattle.pnet_rules.specs.Segment.{Segment, count, turn, turn_by, charged, bound_by, bound, late}
use Rattle.pnet_rules.specs.Limits.{Declared}
use Rattle.pnet_rules.proofs.Sequence.{value_at_most}
use Rattle.pnet_urgent_rules.specs.Urgent.{ahead, rank, behind, blocked, ahead_in, right_by, right, rounds, figure, unmet}
use Rattle.pnet_urgent_rules.proofs.Order.{ahead_then, rank_and_behind}
use Rattle.pnet_urgent_rules.proofs.Right.{right_rises, right_from}

module _ (S : Segment) (d : Declared S) (i : ℕ) (from : 1 ≤ i) (to : i ≤ S.number)
    (passes : (j : ℕ) → 1 ≤ j → j ≤ S.number → (S.stream j).master ≡ (S.stream i).master → late S j ≡ false) where
  R : ℕ
  R = bound S (S.stream i).master

  in_time : (j : ℕ) → 1 ≤ j → j ≤ S.number → (S.stream j).master ≡ (S.stream i).master → R ≤ (S.stream j).deadline
  unfolding R late
  in_time j lo hi same = omega (arith, rw same at (ltb-false (S.stream j).deadline (bound S (S.stream j).master) (passes j lo hi same)))

  -- within the bound each stream ahead asks once, as its D is at most T - J
  once : (j : ℕ) → 1 ≤ j → j ≤ S.number → when (ahead S i j) (up (R + (S.stream j).jitter) (S.stream j).spacing) ≤ when (ahead S i j) 1
  once j lo hi = by (ahead S i j) (λ e. (ahead_then S i j e).one_master)
    where
      by : (b : Bool) → (b ≡ true → (S.stream j).master ≡ (S.stream i).master) → when b (up (R + (S.stream j).jitter) (S.stream j).spacing) ≤ when b 1
      by true same =
          let r = d.ranges j lo hi in
          up_at_most (R + (S.stream j).jitter) (S.stream j).spacing 1 (omega (arith, r.spacing_from)) (omega (arith, in_time j lo hi (same refl), r.deadline_to, r.jitter_to))
      by false same = omega arith

  asked : ahead_in S i R ≤ rank S i
  unfolding ahead_in rank
  asked = upto_mono _ _ S.number once

  -- b is 0 where none is behind
  some_behind : blocked S i ≤ behind S i
  unfolding blocked
  some_behind = by (eqb (behind S i) 0) refl
    where
      by : (b : Bool) → eqb (behind S i) 0 ≡ b → cond b 0 1 ≤ behind S i
      by true e = omega arith
      by false e = omega (arith, eqb-false (behind S i) 0 e)

  -- so the right side at the bound is at most the bound
  fits : right S i R ≤ R
  unfolding right right_by R bound bound_by turn
  fits =
      let s = count S (S.stream i).master in
      let few : 1 + blocked S i + ahead_in S i R ≤ s = omega (arith, asked, some_behind, rank_and_behind S i from to) in
      omega (arith, mul-le-mul {n₁ = turn_by (charged S) S} {m₁ = 1 + blocked S i + ahead_in S i R} {n₂ = turn_by (charged S) S} {m₂ = s} (omega arith) few, mul_comm (turn_by (charged S) S) s)

  pub figure_within_the_bound : figure S i ≤ bound S (S.stream i).master
  unfolding figure R
  figure_within_the_bound =
      value_at_most (turn S) (right S i) (right_rises S i) (right_from S i (turn S)) R fits (omega (arith, right_from S i R, fits)) (rounds S i)

  pub met_where_first_come_is : unmet S i ≡ false
  unfolding unmet R
  met_where_first_come_is = le-ltb (S.stream i).deadline (figure S i) (omega (arith, figure_within_the_bound, in_time i from to refl))
