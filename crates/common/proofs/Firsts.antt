-- Laws of the first number at which a test holds. Assumes nothing.
use mathlib.Core.Path.{◌≡◌, refl, sym, ap, ◌∙◌, subst}
use mathlib.Core.Bool.{Bool, true, false, cond}
use Prim.Native.Nat.{ℕ, zero, suc, ◌+◌, ◌-◌, ◌≤◌, ◌<◌}
use native.Mathlib.Nat.{add-zero, zero-add, add_comm, add-suc, suc-add, le_of_suc-le-suc, not-suc-le-zero}
use native.Mathlib.Omega.{arith}
use native.Mathlib.Decide.{ℕ_discrete}
use Rattle.common.specs.Sums.{first_of}

-- it fails before i + d and holds there
pub first_hit : (f : ℕ → Bool) (d i n : ℕ) → ((j : ℕ) → i ≤ j → j < i + d → f j ≡ false) → f (i + d) ≡ true → d < n → first_of f n i ≡ i + d
unfolding first_of
first_hit f d i zero miss hit l = absurd (not-suc-le-zero l)
first_hit f zero i (suc n) miss hit l = simp (rw add-zero at hit) (sym (add-zero i))
first_hit f (suc d) i (suc n) miss hit l =
    simp (miss i (omega arith) (omega arith))
    (first_hit f d (suc i) n (λ j lo hi. miss j (omega arith) (omega arith)) (subst (λ (m : ℕ). f m ≡ true) (add-suc i d ∙ sym (suc-add i d)) hit) (le_of_suc-le-suc l)
    ∙ (suc-add i d ∙ sym (add-suc i d)))

-- it fails at all
pub first_none : (f : ℕ → Bool) (i n : ℕ) → ((j : ℕ) → i ≤ j → j < i + n → f j ≡ false) → first_of f n i ≡ i + n
unfolding first_of
first_none f i zero miss = sym (add-zero i)
first_none f i (suc n) miss =
    simp (miss i (omega arith) (omega arith)) (first_none f (suc i) n (λ j lo hi. miss j (omega arith) (omega arith)) ∙ (suc-add i n ∙ sym (add-suc i n)))

-- what the first number is: not before i, at most i + n, it fails before it, and holds at it unless it is i + n
pub record First (f : ℕ → Bool) (n i r : ℕ) : Type 0 where
  pub from : i ≤ r
  pub to : r ≤ i + n
  pub fails : (j : ℕ) → i ≤ j → j < r → f j ≡ false
  pub holds : r < i + n → f r ≡ true

pub first_is : (f : ℕ → Bool) (n i : ℕ) → First f n i (first_of f n i)
unfolding first_of
first_is f zero i = record { from = omega arith; to = omega arith; fails = λ j lo hi. absurd (omega arith); holds = λ h. absurd (omega arith) }
first_is f (suc n) i = split (f i) refl (first_is f n (suc i))
  where
    here : (b : Bool) → f i ≡ b → b ≡ true → First f (suc n) i (cond b i (first_of f n (suc i)))
    here true q e = record { from = omega arith; to = omega arith; fails = λ j lo hi. absurd (omega arith); holds = λ h. q }
    here false q e = let z : ◌≡◌ {A = ℕ} 0 1 = cc in absurd (omega arith)

    split : (b : Bool) → f i ≡ b → First f n (suc i) (first_of f n (suc i)) → First f (suc n) i (cond b i (first_of f n (suc i)))
    split true q r = here true q refl
    split false q r =
        record {
          from = omega (arith, r.from);
          to = omega (arith, r.to);
          fails = λ j lo hi. before j lo hi (ℕ_discrete j i);
          holds = λ h. r.holds (omega arith);
        }
      where
        before : (j : ℕ) → i ≤ j → j < first_of f n (suc i) → Dec (j ≡ i) → f j ≡ false
        before j lo hi (yes e) = ap f e ∙ q
        before j lo hi (no e) = r.fails j (omega (arith, e)) hi

-- from 0, as a loop finds it
pub found_first : (f : ℕ → Bool) (n p : ℕ) → ((j : ℕ) → j < p → f j ≡ false) → f p ≡ true → p < n → p ≡ first_of f n 0
found_first f n p miss hit l =
    sym (first_hit f p 0 n (λ j lo hi. miss j (omega arith)) (subst (λ (m : ℕ). f m ≡ true) (sym (zero-add p)) hit) l ∙ zero-add p)

pub found_none : (f : ℕ → Bool) (n p : ℕ) → ((j : ℕ) → j < p → f j ≡ false) → p ≡ n → p ≡ first_of f n 0
found_none f n p miss e = e ∙ sym (first_none f 0 n (λ j lo hi. miss j (omega arith)) ∙ zero-add n)

-- the first number from 1, as a loop that counts from 0 finds it
module _ (f : ℕ → Bool) (n i : ℕ) (miss : (j : ℕ) → j < i → f (j + 1) ≡ false) where
  missed : (j : ℕ) → 1 ≤ j → j < 1 + i → f j ≡ false
  missed j lo hi =
      let e : j - 1 + 1 ≡ j = omega arith in
      subst (λ (x : ℕ). f x ≡ false) e (miss (j - 1) (omega arith))

  pub first_here : i < n → f (i + 1) ≡ true → i + 1 ≡ first_of f n 1
  first_here l hit = add_comm i 1 ∙ sym (first_hit f i 1 n missed (rw (add_comm i 1) at hit) l)

  pub first_nowhere : i ≡ n → n + 1 ≡ first_of f n 1
  first_nowhere e = add_comm n 1 ∙ sym (first_none f 1 n (λ j lo hi. missed j lo (omega arith)))

-- tests that agree on the way have one first number
pub first_same : (f g : ℕ → Bool) (n i : ℕ) → ((j : ℕ) → i ≤ j → j < i + n → f j ≡ g j) → first_of f n i ≡ first_of g n i
unfolding first_of
first_same f g zero i e = refl
first_same f g (suc n) i e = rw (e i (omega arith) (omega arith), first_same f g n (suc i) (λ j lo hi. e j (omega arith) (omega arith)))
