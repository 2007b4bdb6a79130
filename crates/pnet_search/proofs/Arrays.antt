-- Laws of the figures that the code reads off its arrays. Assumes nothing.
use mathlib.Core.Path.{◌≡◌, ap, ◌∙◌}
use mathlib.Core.Bool.{Bool, true, false, cond}
use mathlib.Core.List.{List}
use Prim.Native.Nat.{ℕ, ◌+◌, ◌-◌, ◌*◌, ◌≤◌, min, zero-le}
use native.Mathlib.Nat.{mul-le-mul}
use native.Mathlib.Omega.{arith}
use borrow.Author.Tests.{eq-eqb, ne_eqb}
use lib.Dec.{eqb}
use Rattle.common.specs.Sums.{upto}
use Rattle.common.proofs.Sums.{upto_most}
use Rattle.pnet_rules.specs.Search.{value_from, rounds_from}
use Rattle.pnet_rules.specs.Refined.{saving}
use Rattle.pnet_rules.proofs.Sequence.{Moving, moving_ends, settles_is_rounds, value_rises}
use Rattle.pnet_rules.proofs.Right.{right_of, savings_at_most, right_rises, right_value_at_most, right_moves_at_most}
use Rattle.pnet_turn.specs.Turn.{at}
use Rattle.pnet_search.specs.Arrays.{asked_at, turn_in, bound_in, saved_in, right_in, rounds_in, refined_in, Kept}
use Rattle.pnet_search.proofs.Looks.{asked_rises}

-- ---- What is saved at a master

module _ (counts charges ends pairs : List ℕ) (turn k w y : ℕ) where
  pub saved_own : y ≡ k → 0 ≡ saved_in counts charges ends pairs turn k w y
  unfolding saved_in saving
  saved_own e = simp (eq-eqb y k e)

  pub saved_other : (y ≡ k → ⊥) → (at counts k - min (at counts k) (asked_at counts ends pairs turn y w)) * (at charges y - 10) ≡ saved_in counts charges ends pairs turn k w y
  unfolding saved_in saving
  saved_other e = simp (ne_eqb y k e)

-- as much is asked, as much is saved
pub left_same : {a b : ℕ} (s H : ℕ) → a ≡ b → (s - a) * (H - 10) ≡ (s - b) * (H - 10)
left_same s H e = ap (λ (x : ℕ). (s - x) * (H - 10)) e

pub saved_small : (s a H : ℕ) → s ≤ 80 → H ≤ 1595 → (s - a) * (H - 10) ≤ 126800
saved_small s a H l m = mul-le-mul {n₁ = s - a} {m₁ = H - 10} {n₂ = 80} {m₂ = 1585} (omega arith) (omega arith)

pub saved_in_small : (counts charges ends pairs : List ℕ) (turn k w y : ℕ) → at counts k ≤ 80 → at charges y ≤ 1595 → saved_in counts charges ends pairs turn k w y ≤ 126800
unfolding saved_in saving
saved_in_small counts charges ends pairs turn k w y l m = split (eqb y k)
  where
    a : ℕ
    a = min (at counts k) (asked_at counts ends pairs turn y w)

    split : (b : Bool) → cond b 0 ((at counts k - a) * (at charges y - 10)) ≤ 126800
    split true = omega arith
    split false = saved_small (at counts k) a (at charges y) l m

-- R of a master is small where V is
pub product_small : (s v : ℕ) → s ≤ 80 → v ≤ 51040 → s * v ≤ 4083200
product_small s v l m = mul-le-mul {n₁ = s} {m₁ = v} {n₂ = 80} {m₂ = 51040} l m

pub bound_is : (counts charges : List ℕ) (N k turn : ℕ) → turn ≡ turn_in charges N → at counts k * turn ≡ bound_in counts charges N k
unfolding bound_in
bound_is counts charges N k turn e = ap (λ (v : ℕ). at counts k * v) e

-- ---- The right side of a master, as the segment's laws have it

at_rises : (counts ends pairs : List ℕ) (turn y v w : ℕ) → v ≤ w → asked_at counts ends pairs turn y v ≤ asked_at counts ends pairs turn y w
unfolding asked_at
at_rises counts ends pairs turn y v w l =
    asked_rises pairs (at ends y - at counts y) (v + at counts y * turn) (w + at counts y * turn) (at counts y) (omega arith)

module _ {counts charges ends pairs : List ℕ} {N turn : ℕ} (kept : Kept N turn counts charges ends pairs) where
  charged : (y : ℕ) → 1 ≤ y → y ≤ N → 10 ≤ at charges y
  charged y lo hi = (kept.each y lo hi).charge_from

  -- V is small
  pub turn_small : turn ≤ 51040
  unfolding turn_in
  turn_small = omega (arith, kept.few, kept.turn_is, upto_most (at charges) 1595 N (λ y lo hi. (kept.each y lo hi).charge_to))

  module _ (k : ℕ) where
    pub saved_at_most : (w : ℕ) → upto (saved_in counts charges ends pairs (turn_in charges N) k w) N ≤ bound_in counts charges N k
    unfolding bound_in saved_in turn_in
    saved_at_most w = savings_at_most (at charges) (asked_at counts ends pairs (turn_in charges N)) N (at counts k) k charged w

    module _ (lo : 1 ≤ k) (hi : k ≤ N) where
      few_streams : at counts k ≤ 80
      few_streams = (kept.each k lo hi).count_to

      -- so is R
      pub bound_small : at counts k * turn ≤ 4083200
      bound_small = product_small (at counts k) turn few_streams turn_small

      pub rounds_small : (N - 1) * at counts k ≤ 2480
      rounds_small = mul-le-mul {n₁ = N - 1} {m₁ = at counts k} {n₂ = 31} {m₂ = 80} (omega (arith, kept.few)) few_streams

      -- and every value of the search, which moves at most so often
      pub moving_small : (m w : ℕ) → Moving 0 (right_in counts charges ends pairs N k) m w → w ≤ 4083200
      unfolding right_in bound_in saved_in turn_in right_of
      moving_small m w on =
          let a = asked_at counts ends pairs (turn_in charges N) in
          let most = right_value_at_most (at charges) a N (at counts k) k charged (at_rises counts ends pairs (turn_in charges N)) m in
          omega (arith, on.value, bound_is counts charges N k turn kept.turn_is, bound_small, most)

      pub moving_few : (m w : ℕ) → Moving 0 (right_in counts charges ends pairs N k) m w → m ≤ 1 + (N - 1) * at counts k
      unfolding right_in bound_in saved_in turn_in right_of
      moving_few m w on =
          let a = asked_at counts ends pairs (turn_in charges N) in
          right_moves_at_most (at charges) a N (at counts k) k charged (at_rises counts ends pairs (turn_in charges N)) lo hi m on.moved

      -- no value is below the one before
      pub moving_rises : (m w x : ℕ) → Moving 0 (right_in counts charges ends pairs N k) m w → x ≡ right_in counts charges ends pairs N k w → w ≤ x
      unfolding right_in bound_in saved_in turn_in right_of value_from
      moving_rises m w x on next =
          let a = asked_at counts ends pairs (turn_in charges N) in
          let f = right_of (at charges) a N (at counts k) k in
          let l = value_rises 0 f (right_rises (at charges) a N (at counts k) k charged (at_rises counts ends pairs (turn_in charges N))) zero-le m in
          omega (arith, on.value, next, l, ap f on.value)

      -- where it ends
      pub found : (m w x : ℕ) → Moving 0 (right_in counts charges ends pairs N k) m w → x ≡ right_in counts charges ends pairs N k w → x ≡ w
          → (w ≡ refined_in counts charges ends pairs N k) × (m ≡ rounds_in counts charges ends pairs N k)
      unfolding refined_in rounds_in
      found m w x on next e =
          let f = right_in counts charges ends pairs N k in
          let q : m ≡ rounds_from 0 f (1 + (N - 1) * at counts k) = settles_is_rounds 0 f m _ (moving_ends 0 f m w x on next e) (moving_few m w on) in
          (on.value ∙ ap (value_from 0 f) q, q)
