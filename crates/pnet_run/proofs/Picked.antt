-- The numbers of 1..n at which a test holds, in order, and laws of that list. Assumes nothing.
use Prim.Native.Nat.{ℕ, zero, suc, ◌+◌, ◌≤◌, ◌<◌}
use mathlib.Core.Path.{◌≡◌, refl, sym, ap, ◌∙◌}
use mathlib.Core.Bool.{Bool, true, false, cond}
use mathlib.Core.Logic.{◌≢◌}
use mathlib.Core.List.{List, [], ◌∷◌, ◌++◌}
use native.Mathlib.Decide.{ℕ_discrete}
use native.Mathlib.Omega.{arith}
use lib.ListN.{length, length-append}
use Rattle.common.specs.Sums.{when, upto}

unfoldable pub picked : (ℕ → Bool) → ℕ → List ℕ
picked f zero = []
picked f (suc n) = cond (f (suc n)) (picked f n ++ (suc n ∷ [])) (picked f n)

pub length_picked : (f : ℕ → Bool) (n : ℕ) → length (picked f n) ≡ upto (λ i. when (f i) 1) n
unfolding picked upto
length_picked f zero = refl
length_picked f (suc n) = go (f (suc n)) (length_picked f n)
  where
    go : (b : Bool) → length (picked f n) ≡ upto (λ i. when (f i) 1) n
        → length (cond b (picked f n ++ (suc n ∷ [])) (picked f n)) ≡ upto (λ i. when (f i) 1) n + when b 1
    go true e = simp length-append (omega arith)
    go false e = omega arith

pub picked_same : (f g : ℕ → Bool) (n : ℕ) → ((i : ℕ) → 1 ≤ i → i ≤ n → f i ≡ g i) → picked f n ≡ picked g n
unfolding picked
picked_same f g zero e = refl
picked_same f g (suc n) e = simp (e (suc n) (omega arith) (omega arith), picked_same f g n (λ i lo hi. e i lo (omega arith)))

pub picked_none : (f : ℕ → Bool) (n : ℕ) → ((i : ℕ) → 1 ≤ i → i ≤ n → f i ≡ false) → picked f n ≡ []
unfolding picked
picked_none f zero e = refl
picked_none f (suc n) e = simp (e (suc n) (omega arith) (omega arith), picked_none f n (λ i lo hi. e i lo (omega arith)))

-- the first that is picked, and the others: g is f but at i
pub picked_first : (f g : ℕ → Bool) (n i : ℕ) → 1 ≤ i → i ≤ n → f i ≡ true → g i ≡ false → ((j : ℕ) → 1 ≤ j → j < i → f j ≡ false)
    → ((j : ℕ) → 1 ≤ j → j ≢ i → f j ≡ g j) → picked f n ≡ i ∷ picked g n
unfolding picked
picked_first f g zero i lo hi t u before same = absurd (omega arith)
picked_first f g (suc n) i lo hi t u before same = go (ℕ_discrete i (suc n)) (λ h. picked_first f g n i lo h t u before same)
  where
    here : i ≡ suc n → picked f (suc n) ≡ i ∷ picked g (suc n)
    here e =
        let off : (j : ℕ) → 1 ≤ j → j ≤ n → f j ≡ false = λ j a b. before j a (omega arith) in
        simp (
          ap f (sym e) ∙ t,
          ap g (sym e) ∙ u,
          picked_none f n off,
          picked_none g n (λ j a b. sym (same j a (λ d. omega arith)) ∙ off j a b),
          e,
        )

    go : Dec (i ≡ suc n) → (i ≤ n → picked f n ≡ i ∷ picked g n) → picked f (suc n) ≡ i ∷ picked g (suc n)
    go (yes e) ih = here e
    go (no z) ih = rest (f (suc n)) (g (suc n)) (same (suc n) (omega arith) (λ e. z (sym e))) (ih (omega (arith, z)))
      where
        rest : (b d : Bool) → b ≡ d → picked f n ≡ i ∷ picked g n
            → cond b (picked f n ++ (suc n ∷ [])) (picked f n) ≡ i ∷ cond d (picked g n ++ (suc n ∷ [])) (picked g n)
        rest b true e q = simp (e, q)
        rest b false e q = simp (e, q)
