-- Page 01, 'P-NET bounds': laws of s, H, V and R that the planner and the bus's runs rest on. Assumes nothing.
use mathlib.Core.Path.{◌≡◌, refl, sym, ◌∙◌}
use mathlib.Core.Logic.{◌≢◌}
use mathlib.Core.Bool.{Bool, true, false, cond}
use Prim.Native.Nat.{ℕ, ◌+◌, ◌*◌, ◌≤◌, ◌<◌}
use native.Mathlib.Nat.{zero-mul, mul-zero, mul-le-mul}
use native.Mathlib.Decide.{ℕ_discrete}
use native.Mathlib.Omega.{arith}
use borrow.Author.Tests.{eq-eqb, ne_eqb}
use lib.Dec.{eqb}
use Rattle.common.specs.Sums.{when, upto}
use Rattle.common.proofs.Sums.{upto_term, upto_same, upto_most, upto_even, greatest_most, greatest_least}
use Rattle.pnet_rules.specs.Segment.{Segment, owns, count, longest, hold, largest, charged, turn_by, bound_by, turn, bound}
use Rattle.pnet_rules.specs.Limits.{Declared}

-- ---- A stream and its master

module _ (S : Segment) (i : ℕ) where
  pub owned : owns S (S.stream i).master i ≡ true
  unfolding owns
  owned = eq-eqb (S.stream i).master (S.stream i).master refl

  module _ (lo : 1 ≤ i) (hi : i ≤ S.number) where
    -- a master that owns a stream has one at least
    pub count_owned : (k : ℕ) → owns S k i ≡ true → 1 ≤ count S k
    unfolding count
    count_owned k e = rw e at (upto_term (λ j. when (owns S k j) 1) S.number i lo hi)

    pub cycle_at_most_longest : (k : ℕ) → owns S k i ≡ true → (S.stream i).cycle ≤ longest S k
    unfolding longest
    cycle_at_most_longest k e = rw e at (greatest_most (λ j. when (owns S k j) (S.stream j).cycle) S.number i lo hi)

-- a number that no stream has for its master has none
count_not_owned : (S : Segment) (k : ℕ) → ((i : ℕ) → 1 ≤ i → i ≤ S.number → (S.stream i).master ≢ k) → count S k ≡ 0
unfolding count owns
count_not_owned S k other =
    omega (
      arith,
      upto_most (λ i. when (owns S k i) 1) 0 S.number (λ i lo hi. rw (ne_eqb (S.stream i).master k (other i lo hi)) (omega arith)),
      mul-zero S.number,
    )

-- ---- H

module _ (S : Segment) (y : ℕ) where
  -- a master without streams has no longest cycle
  pub longest_none : count S y ≡ 0 → longest S y ≡ 0
  unfolding count longest
  longest_none e =
      omega (
        arith,
        greatest_least (λ i. when (owns S y i) (S.stream i).cycle) 0 S.number
            (λ i lo hi. split (S.stream i).cycle (owns S y i) (upto_term (λ j. when (owns S y j) 1) S.number i lo hi)),
      )
    where
      split : (c : ℕ) (b : Bool) → when b 1 ≤ upto (λ j. when (owns S y j) 1) S.number → when b c ≤ 0
      split c true l = absurd (omega (arith, e))
      split c false l = omega arith

  pub hold_none : count S y ≡ 0 → hold S y ≡ 10
  unfolding hold
  hold_none e = simp (eq-eqb (count S y) 0 e)

  pub hold_some : 1 ≤ count S y → hold S y ≡ 47 + longest S y
  unfolding hold
  hold_some l = simp (ne_eqb (count S y) 0 (λ e. omega arith))

  pub hold_at_least : 10 ≤ hold S y
  unfolding hold
  hold_at_least = split (eqb (count S y) 0)
    where
      split : (b : Bool) → 10 ≤ cond b 10 (47 + longest S y)
      split true = omega arith
      split false = omega arith

-- a served request of stream i fits its master's H
pub cycle_held : (S : Segment) (i : ℕ) → 1 ≤ i → i ≤ S.number → 47 + (S.stream i).cycle ≤ hold S (S.stream i).master
cycle_held S i lo hi =
    let k = (S.stream i).master in
    omega (arith, hold_some S k (count_owned S i lo hi k (owned S i)), cycle_at_most_longest S i lo hi k (owned S i))

-- ---- The charge of an edition

module _ (S : Segment) where
  -- under edition 1, and any but 2, it is H
  pub charged_first : (S.edition ≡ 2 → ⊥) → charged S ≡ hold S
  unfolding charged
  charged_first e = rw (ne_eqb S.edition 2 e)

  pub charged_second : S.edition ≡ 2 → (y : ℕ) → charged S y ≡ largest S
  unfolding charged
  charged_second e y = rw (eq-eqb S.edition 2 e)

  -- so V is N-as-H then
  pub turn_second : S.edition ≡ 2 → turn S ≡ S.masters * largest S
  unfolding turn turn_by
  turn_second e = upto_same (charged S) (λ y. largest S) S.masters (λ y lo hi. charged_second e y) ∙ upto_even (largest S) S.masters

  module _ (y : ℕ) (lo : 1 ≤ y) (hi : y ≤ S.masters) where
    -- no master is charged less than its H
    pub charged_covers : hold S y ≤ charged S y
    unfolding charged largest
    charged_covers = split (eqb S.edition 2)
      where
        split : (b : Bool) → hold S y ≤ (cond b (λ (z : ℕ). largest S) (hold S)) y
        split true = greatest_most (hold S) S.masters y lo hi
        split false = omega arith

    pub charged_at_least : 10 ≤ charged S y
    charged_at_least = omega (arith, hold_at_least S y, charged_covers)

-- ---- R is 0 for a master without streams, and for no other

-- whatever is charged
pub bound_silent_by : (h : ℕ → ℕ) (S : Segment) (k : ℕ) → count S k ≡ 0 → bound_by h S k ≡ 0
unfolding bound_by
bound_silent_by h S k e = rw e (zero-mul (turn_by h S))

pub bound_silent : (S : Segment) (k : ℕ) → count S k ≡ 0 → bound S k ≡ 0
unfolding bound
bound_silent S = bound_silent_by (charged S) S

-- V is at least an unused visit, so a master with streams has at least that for each
module _ (S : Segment) (some : 1 ≤ S.masters) where
  turn_at_least : 10 ≤ turn S
  unfolding turn turn_by
  turn_at_least = omega (arith, upto_term (charged S) S.masters 1 (omega arith) some, charged_at_least S 1 (omega arith) some)

  pub bound_at_least : (k : ℕ) → count S k * 10 ≤ bound S k
  unfolding bound bound_by turn
  bound_at_least k = mul-le-mul {n₁ = count S k} {m₁ = 10} {n₂ = count S k} {m₂ = turn_by (charged S) S} (omega arith) turn_at_least

  pub silent_by_bound : (k : ℕ) → eqb (bound S k) 0 ≡ eqb (count S k) 0
  silent_by_bound k = split (ℕ_discrete (count S k) 0)
    where
      split : Dec (count S k ≡ 0) → eqb (bound S k) 0 ≡ eqb (count S k) 0
      split (yes e) = rw (bound_silent S k e, e)
      split (no e) = ne_eqb (bound S k) 0 (λ z. omega (arith, e, bound_at_least k)) ∙ sym (ne_eqb (count S k) 0 e)

-- ---- Who has streams in a declared segment, and how large its figures are

module _ (S : Segment) (d : Declared S) where
  -- masters are numbered from 1 to N
  pub count_above_masters : (k : ℕ) → S.masters < k → count S k ≡ 0
  count_above_masters k l = count_not_owned S k (λ i lo hi e. omega (arith, (d.ranges i lo hi).master_to))

  pub count_of_zero : (k : ℕ) → k ≡ 0 → count S k ≡ 0
  count_of_zero k z = count_not_owned S k (λ i lo hi e. omega (arith, (d.ranges i lo hi).master_from))

  pub bound_none : (k : ℕ) → bound S k ≡ 0 → count S k ≡ 0
  bound_none k e = omega (arith, bound_at_least S d.masters_from k)

  pub longest_at_most : (y : ℕ) → longest S y ≤ 1548
  unfolding longest
  longest_at_most y = greatest_least (λ i. when (owns S y i) (S.stream i).cycle) 1548 S.number (λ i lo hi. split (owns S y i) (d.ranges i lo hi).cycle_to)
    where
      split : {c : ℕ} (b : Bool) → c ≤ 1548 → when b c ≤ 1548
      split true l = l
      split false l = omega arith

  pub hold_at_most : (y : ℕ) → hold S y ≤ 1595
  unfolding hold
  hold_at_most y = split (eqb (count S y) 0) (longest_at_most y)
    where
      split : (b : Bool) → longest S y ≤ 1548 → cond b 10 (47 + longest S y) ≤ 1595
      split true l = omega arith
      split false l = omega arith

  pub charged_at_most : (y : ℕ) → charged S y ≤ 1595
  unfolding charged largest
  charged_at_most y = split (eqb S.edition 2)
    where
      split : (b : Bool) → (cond b (λ (z : ℕ). largest S) (hold S)) y ≤ 1595
      split true = greatest_least (hold S) 1595 S.masters (λ z lo hi. hold_at_most z)
      split false = hold_at_most y

  pub turn_at_most : turn S ≤ 51040
  unfolding turn turn_by
  turn_at_most = omega (arith, d.masters_to, upto_most (charged S) 1595 S.masters (λ y lo hi. charged_at_most y))

  pub bound_at_most : (k : ℕ) → bound S k ≤ 4083200
  unfolding bound bound_by turn
  bound_at_most k = mul-le-mul {n₁ = count S k} {m₁ = turn_by (charged S) S} {n₂ = 80} {m₂ = 51040} (d.counts k) turn_at_most
