-- Page 01, 'P-NET bounds', the refined figure: what W and its rounds are, for every segment and each of its masters. The first part
-- holds for any charge h(y) of at least 10 and any count a(y) that never falls as W grows; the second puts the charge of the edition and the planner's a(y) in.
-- Assumes nothing.
use mathlib.Core.Path.{◌≡◌, ap}
use mathlib.Core.Bool.{Bool, true, false}
use Prim.Native.Nat.{ℕ, suc, ◌+◌, ◌-◌, ◌*◌, ◌≤◌, zero-le}
use native.Mathlib.Nat.{zero-mul}
use native.Mathlib.Omega.{arith}
use Rattle.common.specs.Sums.{when, upto}
use Rattle.common.proofs.Sums.{upto_mono, up_rises}
use Rattle.pnet_rules.specs.Segment.{Segment, owns, count, charged, turn_by, bound_by, bound}
use Rattle.pnet_rules.specs.Search.{value_from, rounds_from, Settles}
use Rattle.pnet_rules.specs.Refined.{right_by, most_rounds, asked_by, right, rounds, refined}
use Rattle.pnet_rules.proofs.Sequence.{Least, value_rises, still_at_once}
use Rattle.pnet_rules.proofs.Right.{right_of, charge, right_is_charges, right_rises, right_at_most, right_least, right_rounds, right_rounds_at_most, right_value_at_most}
use Rattle.pnet_rules.proofs.Holds.{charged_at_least, bound_silent_by}

-- ---- For any charge and any count

module _ (h : ℕ → ℕ) (a : ℕ → ℕ → ℕ) (S : Segment) (k : ℕ) where
  module _ (big : (y : ℕ) → 1 ≤ y → y ≤ S.masters → 10 ≤ h y) (grows : (y v w : ℕ) → v ≤ w → a y v ≤ a y w) (lo : 1 ≤ k) (hi : k ≤ S.masters) where
    -- the right side, with its minus, is s·h(k) and 10·s + min(s, a(y))·(h(y) - 10) for every other y
    pub right_is_sum_by : (w : ℕ) → right_by h a S k w ≡ upto (λ y. charge h (count S k) k (a y w) y) S.masters
    unfolding right_by turn_by right_of
    right_is_sum_by = right_is_charges h a S.masters (count S k) k big

    -- it never falls as W grows, and is at most the bound
    pub right_rises_by : (v w : ℕ) → v ≤ w → right_by h a S k v ≤ right_by h a S k w
    unfolding right_by turn_by right_of
    right_rises_by = right_rises h a S.masters (count S k) k big grows

    pub right_at_most_by : (w : ℕ) → right_by h a S k w ≤ bound_by h S k
    unfolding right_by turn_by right_of bound_by
    right_at_most_by = right_at_most h a S.masters (count S k) k

    -- so the sequence rises
    pub values_rise_by : (m : ℕ) → value_from 0 (right_by h a S k) m ≤ value_from 0 (right_by h a S k) (suc m)
    values_rise_by = value_rises 0 (right_by h a S k) right_rises_by zero-le

    -- the value reached is the least W with W = right side
    pub least_by : Least (right_by h a S k) (value_from 0 (right_by h a S k) (rounds_from 0 (right_by h a S k) (most_rounds S k)))
    unfolding right_by turn_by right_of most_rounds
    least_by = right_least h a S.masters (count S k) k big grows lo hi

    -- it is at most the bound
    pub at_most_bound_by : value_from 0 (right_by h a S k) (rounds_from 0 (right_by h a S k) (most_rounds S k)) ≤ bound_by h S k
    unfolding right_by turn_by right_of most_rounds bound_by
    at_most_bound_by = right_value_at_most h a S.masters (count S k) k big grows _

    -- it is reached at the first m whose value equals the next one
    pub rounds_first_by : Settles 0 (right_by h a S k) (rounds_from 0 (right_by h a S k) (most_rounds S k))
    unfolding right_by turn_by right_of most_rounds
    rounds_first_by = right_rounds h a S.masters (count S k) k big grows lo hi

    pub rounds_at_most_by : rounds_from 0 (right_by h a S k) (most_rounds S k) ≤ 1 + (S.masters - 1) * count S k
    unfolding right_by turn_by right_of most_rounds
    rounds_at_most_by = right_rounds_at_most h a S.masters (count S k) k big grows lo hi

  -- a master without streams: all three are 0
  pub silent_zero_by : count S k ≡ 0
      → (bound_by h S k ≡ 0) × (value_from 0 (right_by h a S k) (rounds_from 0 (right_by h a S k) (most_rounds S k)) ≡ 0) × (rounds_from 0 (right_by h a S k) (most_rounds S k) ≡ 0)
  unfolding right_by turn_by most_rounds value_from
  silent_zero_by e =
      let v : right_by h a S k 0 ≡ 0 = simp e (omega (arith, zero-mul (upto h S.masters))) in
      let r : rounds_from 0 (right_by h a S k) (1 + (S.masters - 1) * count S k) ≡ 0 = still_at_once 0 (right_by h a S k) v ((S.masters - 1) * count S k) in
      (bound_silent_by h S k e, ap (value_from 0 (right_by h a S k)) r, r)

-- ---- The planner's

-- as many requests, or more, with as large an R(y) and in as long a window
pub asked_no_less : (h g : ℕ → ℕ) (S : Segment) (y v w : ℕ) → bound_by h S y ≤ bound_by g S y → v ≤ w → asked_by h S y v ≤ asked_by g S y w
unfolding asked_by
asked_no_less h g S y v w r l = upto_mono _ _ S.number (λ i lo hi. split (owns S y i) (up_rises (v + bound_by h S y + (S.stream i).jitter) (w + bound_by g S y + (S.stream i).jitter) (S.stream i).spacing (omega arith)))
  where
    split : {x z : ℕ} (b : Bool) → x ≤ z → when b x ≤ when b z
    split true q = q
    split false q = omega arith

pub asked_rises : (h : ℕ → ℕ) (S : Segment) (y v w : ℕ) → v ≤ w → asked_by h S y v ≤ asked_by h S y w
asked_rises h S y v w l = asked_no_less h h S y v w (omega arith) l

module _ (S : Segment) (k : ℕ) where
  module _ (lo : 1 ≤ k) (hi : k ≤ S.masters) where
    -- W = right side
    pub refined_solves : refined S k ≡ right S k (refined S k)
    unfolding refined rounds right
    refined_solves = (least_by (charged S) (asked_by (charged S) S) S k (charged_at_least S) (asked_rises (charged S) S) lo hi).solves

    -- and no smaller number solves it
    pub refined_least : (w : ℕ) → w ≡ right S k w → refined S k ≤ w
    unfolding refined rounds right
    refined_least = (least_by (charged S) (asked_by (charged S) S) S k (charged_at_least S) (asked_rises (charged S) S) lo hi).least

    pub refined_at_most_bound : refined S k ≤ bound S k
    unfolding refined rounds right bound
    refined_at_most_bound = at_most_bound_by (charged S) (asked_by (charged S) S) S k (charged_at_least S) (asked_rises (charged S) S) lo hi

    -- the round count is the first m whose m-th value equals the next one
    pub rounds_first : Settles 0 (right S k) (rounds S k)
    unfolding rounds right
    rounds_first = rounds_first_by (charged S) (asked_by (charged S) S) S k (charged_at_least S) (asked_rises (charged S) S) lo hi

    pub rounds_at_most : rounds S k ≤ 1 + (S.masters - 1) * count S k
    unfolding rounds right
    rounds_at_most = rounds_at_most_by (charged S) (asked_by (charged S) S) S k (charged_at_least S) (asked_rises (charged S) S) lo hi

  -- a master without streams: all three are 0
  pub silent_zero : count S k ≡ 0 → (bound S k ≡ 0) × (refined S k ≡ 0) × (rounds S k ≡ 0)
  unfolding refined rounds right bound
  silent_zero = silent_zero_by (charged S) (asked_by (charged S) S) S k
