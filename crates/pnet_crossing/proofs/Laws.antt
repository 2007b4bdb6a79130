-- What the functions of a path's answer go by: the first number from 1, and the two steps of the cost. Assumes nothing.
use mathlib.Core.Path.{◌≡◌, refl, sym, ap, ◌∙◌}
use mathlib.Core.Bool.{Bool, true, false}
use Prim.Native.Nat.{ℕ, zero, suc, ◌+◌, ◌-◌, ◌≤◌, ◌<◌}
use native.Mathlib.Omega.{arith}
use native.Mathlib.Decide.{ℕ_discrete}
use Rattle.common.specs.Sums.{first_of}
use Rattle.common.proofs.Firsts.{first_here, first_nowhere}
use Rattle.pnet_crossing.specs.Cost.{segment_step, gateway_step}

-- ---- The first number from 1, as a loop that counts from 1 finds it

-- the test holds at none before i
pub record Searched (f : ℕ → Bool) (i : ℕ) : Type 0 where
  pub fails : (j : ℕ) → j < i - 1 → f (j + 1) ≡ false

module _ (f : ℕ → Bool) where
  pub searched_none : Searched f 1
  searched_none = record { fails = λ j l. absurd (omega arith) }

  module _ (i : ℕ) (h : Searched f i) (from : 1 ≤ i) where
    at : i - 1 + 1 ≡ i
    at = omega arith

    pub searched_more : f i ≡ false → Searched f (i + 1)
    searched_more e = record { fails = λ j k. last j k (ℕ_discrete (j + 1) i) }
      where
        last : (j : ℕ) → j < i + 1 - 1 → Dec (j + 1 ≡ i) → f (j + 1) ≡ false
        last j k (yes q) = ap f q ∙ e
        last j k (no q) = h.fails j (omega (arith, q))

    pub searched_here : (n : ℕ) → i ≤ n → f i ≡ true → i ≡ first_of f n 1
    searched_here n l e = sym at ∙ first_here f n (i - 1) h.fails (omega arith) (ap f at ∙ e)

    pub searched_end : (n : ℕ) → i ≡ n + 1 → n + 1 ≡ first_of f n 1
    searched_end n e = first_nowhere f n (i - 1) h.fails (omega arith)

-- ---- The steps of the cost

one_less : (n : ℕ) → suc n - 1 ≡ n
one_less n = omega arith

module _ (R F : ℕ → ℕ) where
  pub segment_none : (left i : ℕ) → left ≡ 0 → 0 ≡ segment_step R F left i
  unfolding segment_step
  segment_none left i e = rw e

  pub segment_more : (left i : ℕ) → (left ≡ 0 → ⊥) → R i + gateway_step R F (left - 1) i ≡ segment_step R F left i
  unfolding segment_step
  segment_more zero i e = absurd (e refl)
  segment_more (suc left) i e = omega (arith, ap (λ (n : ℕ). gateway_step R F n i) (one_less left))

  pub gateway_none : (left i : ℕ) → left ≡ 0 → 0 ≡ gateway_step R F left i
  unfolding segment_step
  gateway_none left i e = rw e

  pub gateway_more : (left i : ℕ) → (left ≡ 0 → ⊥) → F i + segment_step R F (left - 1) (i + 1) + F i ≡ gateway_step R F left i
  unfolding segment_step
  gateway_more zero i e = absurd (e refl)
  gateway_more (suc left) i e = omega (arith, ap (λ (n : ℕ). segment_step R F n (i + 1)) (one_less left))
