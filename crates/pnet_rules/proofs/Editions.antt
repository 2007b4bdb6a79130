-- Page 02, Ask 10: edition 1 is page 01's rule, and edition 2 is never kinder to the same masters and streams: R and W are no less, so what passes
-- under edition 2 passes under edition 1. The first part holds for any two charges of which one is at least the other. Assumes nothing.
use mathlib.Core.Path.{◌≡◌, ap}
use mathlib.Core.Bool.{true}
use Prim.Native.Nat.{ℕ, ◌≤◌, zero-le}
use native.Mathlib.Nat.{mul-le-mul}
use native.Mathlib.Omega.{arith}
use borrow.Author.Tests.{lt-ltb, ltb-true}
use Rattle.common.proofs.Sums.{upto_mono}
use Rattle.pnet_rules.specs.Segment.{Segment, owns, count, longest, hold, charged, turn_by, bound_by, bound, late}
use Rattle.pnet_rules.specs.Search.{value_from, rounds_from}
use Rattle.pnet_rules.specs.Refined.{right_by, most_rounds, asked_by, right, rounds, refined}
use Rattle.pnet_rules.proofs.Sequence.{value_at_most}
use Rattle.pnet_rules.proofs.Right.{right_of, right_no_less}
use Rattle.pnet_rules.proofs.Holds.{charged_first, charged_covers, charged_at_least}
use Rattle.pnet_rules.proofs.Figures.{right_rises_by, asked_no_less, asked_rises, least_by}

-- ---- Two charges, h(y) at most g(y) for each master

module _ (h g : ℕ → ℕ) (S : Segment) (less : (y : ℕ) → 1 ≤ y → y ≤ S.masters → h y ≤ g y) where
  pub bound_no_less_by : (k : ℕ) → bound_by h S k ≤ bound_by g S k
  unfolding bound_by turn_by
  bound_no_less_by k = mul-le-mul {n₁ = count S k} {m₁ = turn_by h S} {n₂ = count S k} {m₂ = turn_by g S} (omega arith) (upto_mono h g S.masters less)

  module _ (big : (y : ℕ) → 1 ≤ y → y ≤ S.masters → 10 ≤ h y) (k : ℕ) (lo : 1 ≤ k) (hi : k ≤ S.masters) where
    larger : (y : ℕ) → 1 ≤ y → y ≤ S.masters → 10 ≤ g y
    larger y from to = omega (arith, big y from to, less y from to)

    -- R(y) stands in the count, so that grows too
    pub right_no_less_by : (w : ℕ) → right_by h (asked_by h S) S k w ≤ right_by g (asked_by g S) S k w
    unfolding right_by turn_by right_of
    right_no_less_by w =
        right_no_less h g (asked_by h S) (asked_by g S) S.masters (count S k) k w w big less (λ y. asked_no_less h g S y w w (bound_no_less_by y) (omega arith))

    -- no value of the one sequence is above the solution of the other
    pub refined_no_less_by : (m : ℕ) → value_from 0 (right_by h (asked_by h S) S k) m ≤ value_from 0 (right_by g (asked_by g S) S k) (rounds_from 0 (right_by g (asked_by g S) S k) (most_rounds S k))
    refined_no_less_by m =
        let w = value_from 0 (right_by g (asked_by g S) S k) (rounds_from 0 (right_by g (asked_by g S) S k) (most_rounds S k)) in
        value_at_most 0 (right_by h (asked_by h S) S k) (right_rises_by h (asked_by h S) S k big (asked_rises h S) lo hi) zero-le w
        (omega (arith, (least_by g (asked_by g S) S k larger (asked_rises g S) lo hi).solves, right_no_less_by w)) zero-le m

-- ---- Edition 1 is page 01's rule

module _ (S : Segment) (first : S.edition ≡ 2 → ⊥) (k : ℕ) where
  pub bound_by_hold : bound S k ≡ bound_by (hold S) S k
  unfolding bound
  bound_by_hold = rw (charged_first S first)

  pub right_by_hold : right S k ≡ right_by (hold S) (asked_by (hold S) S) S k
  unfolding right
  right_by_hold = ap (λ (h : ℕ → ℕ). right_by h (asked_by h S) S k) (charged_first S first)

  pub rounds_by_hold : rounds S k ≡ rounds_from 0 (right_by (hold S) (asked_by (hold S) S) S k) (most_rounds S k)
  unfolding rounds
  rounds_by_hold = rw right_by_hold

  pub refined_by_hold : refined S k ≡ value_from 0 (right_by (hold S) (asked_by (hold S) S) S k) (rounds_from 0 (right_by (hold S) (asked_by (hold S) S) S k) (most_rounds S k))
  unfolding refined
  refined_by_hold = rw (rounds_by_hold, right_by_hold)

-- ---- Edition 2 is never kinder

-- the same masters and streams by an edition
abbrev pub by : ℕ → Segment → Segment
by e S = record { edition = e; masters = S.masters; number = S.number; stream = S.stream }

module _ (S : Segment) where
  charged_no_less : (y : ℕ) → 1 ≤ y → y ≤ S.masters → charged (by 1 S) y ≤ charged (by 2 S) y
  unfolding charged hold count longest owns
  charged_no_less = charged_covers (by 2 S)

  pub bound_no_less : (k : ℕ) → bound (by 1 S) k ≤ bound (by 2 S) k
  unfolding bound bound_by turn_by count owns
  bound_no_less = bound_no_less_by (charged (by 1 S)) (charged (by 2 S)) S charged_no_less

  pub refined_no_less : (k : ℕ) → 1 ≤ k → k ≤ S.masters → refined (by 1 S) k ≤ refined (by 2 S) k
  unfolding refined rounds right most_rounds right_by asked_by bound_by turn_by count owns
  refined_no_less k lo hi = refined_no_less_by (charged (by 1 S)) (charged (by 2 S)) S charged_no_less (charged_at_least (by 1 S)) k lo hi (rounds (by 1 S) k)

  -- a stream that fails under edition 1 fails under edition 2
  pub late_no_less : (i : ℕ) → late (by 1 S) i ≡ true → late (by 2 S) i ≡ true
  unfolding late
  late_no_less i e =
      let k = (S.stream i).master in
      lt-ltb (S.stream i).deadline (bound (by 2 S) k) (omega (arith, ltb-true (S.stream i).deadline (bound (by 1 S) k) e, bound_no_less k))
