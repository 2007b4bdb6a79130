-- Laws of sums and greatest figures over 1..n, and of quotients rounded up. Assumes nothing.
use mathlib.Core.Path.{◌≡◌, refl, sym, ap, ◌∙◌}
use mathlib.Core.Logic.{◌≢◌}
use Prim.Native.Nat.{ℕ, zero, suc, ◌+◌, ◌-◌, ◌*◌, ◌/◌, ◌≤◌, ◌<◌, zero-le, max}
use native.Mathlib.Nat.{mul-zero, mul_comm, mul-le-mul, mul-add, suc-mul, div-zero, div-lt_iff_lt-mul}
use native.Mathlib.Numerals.{add-one}
use native.Mathlib.Omega.{arith}
use native.Mathlib.Decide.{ℕ_discrete}
use borrow.Author.Tests.{eq-eqb, ne_eqb}
use lib.Dec.{eqb}
use Rattle.common.specs.Sums.{when, upto, greatest, up}

-- ---- Sums

-- one more, as a loop counts
pub upto_more : (f : ℕ → ℕ) (n : ℕ) → upto f (n + 1) ≡ upto f n + f (n + 1)
unfolding upto
upto_more f n = rw add-one refl

pub upto_mono : (f g : ℕ → ℕ) (n : ℕ) → ((y : ℕ) → 1 ≤ y → y ≤ n → f y ≤ g y) → upto f n ≤ upto g n
unfolding upto
upto_mono f g zero le = zero-le
upto_mono f g (suc n) le = omega (arith, upto_mono f g n (λ y lo hi. le y lo (omega arith)), le (suc n) (omega arith) (omega arith))

pub upto_same : (f g : ℕ → ℕ) (n : ℕ) → ((y : ℕ) → 1 ≤ y → y ≤ n → f y ≡ g y) → upto f n ≡ upto g n
unfolding upto
upto_same f g zero eq = refl
upto_same f g (suc n) eq = omega (arith, upto_same f g n (λ y lo hi. eq y lo (omega arith)), eq (suc n) (omega arith) (omega arith))

-- equal sums of terms that are in order one by one: the terms are equal
pub upto_terms : (f g : ℕ → ℕ) (n : ℕ) → ((y : ℕ) → 1 ≤ y → y ≤ n → f y ≤ g y) → upto f n ≡ upto g n
    → (y : ℕ) → 1 ≤ y → y ≤ n → f y ≡ g y
unfolding upto
upto_terms f g zero le e y lo hi = omega arith
upto_terms f g (suc n) le e y lo hi = last (ℕ_discrete y (suc n)) (upto_terms f g n (λ z lo' hi'. le z lo' (omega arith)))
  where
    s : upto f n ≤ upto g n
    s = upto_mono f g n (λ z lo' hi'. le z lo' (omega arith))

    l : f (suc n) ≤ g (suc n)
    l = le (suc n) (omega arith) (omega arith)

    last : Dec (y ≡ suc n) → (upto f n ≡ upto g n → (z : ℕ) → 1 ≤ z → z ≤ n → f z ≡ g z) → f y ≡ g y
    last (yes q) ih = ap f q ∙ (omega (arith, s, l) ∙ sym (ap g q))
    last (no q) ih = ih (omega (arith, s, l)) y lo (omega (arith, q))

-- terms in order one by one, and one of them below: so are the sums
pub upto_less : (f g : ℕ → ℕ) (n y : ℕ) → ((z : ℕ) → 1 ≤ z → z ≤ n → f z ≤ g z) → 1 ≤ y → y ≤ n → f y < g y → upto f n < upto g n
upto_less f g n y le lo hi l =
    let d : (upto f n ≡ upto g n → ⊥) = λ (e : upto f n ≡ upto g n). (let z = upto_terms f g n le e y lo hi in omega arith) in
    omega (arith, d, upto_mono f g n le)

-- a term is at most the sum
pub upto_term : (f : ℕ → ℕ) (n y : ℕ) → 1 ≤ y → y ≤ n → f y ≤ upto f n
unfolding upto
upto_term f zero y lo hi = omega arith
upto_term f (suc n) y lo hi = last (ℕ_discrete y (suc n)) (upto_term f n y lo)
  where
    last : Dec (y ≡ suc n) → (y ≤ n → f y ≤ upto f n) → f y ≤ upto f n + f (suc n)
    last (yes q) ih = omega (arith, ap f q)
    last (no q) ih = omega (arith, ih (omega (arith, q)))

-- terms of at most c
pub upto_most : (f : ℕ → ℕ) (c n : ℕ) → ((y : ℕ) → 1 ≤ y → y ≤ n → f y ≤ c) → upto f n ≤ n * c
unfolding upto
upto_most f c zero le = zero-le
upto_most f c (suc n) le = omega (arith, upto_most f c n (λ y lo hi. le y lo (omega arith)), le (suc n) (omega arith) (omega arith), suc-mul n c)

pub upto_add : (f g : ℕ → ℕ) (n : ℕ) → upto (λ y. f y + g y) n ≡ upto f n + upto g n
unfolding upto
upto_add f g zero = refl
upto_add f g (suc n) = omega (arith, upto_add f g n)

pub upto_scale : (s : ℕ) (f : ℕ → ℕ) (n : ℕ) → s * upto f n ≡ upto (λ y. s * f y) n
unfolding upto
upto_scale s f zero = mul-zero s
upto_scale s f (suc n) = omega (arith, upto_scale s f n, mul-add s (upto f n) (f (suc n)))

-- n equal terms
pub upto_even : (c n : ℕ) → upto (λ y. c) n ≡ n * c
unfolding upto
upto_even c zero = omega arith
upto_even c (suc n) = omega (arith, upto_even c n, suc-mul n c)

-- ---- Greatest figures

pub greatest_more : (f : ℕ → ℕ) (n : ℕ) → greatest f (n + 1) ≡ max (greatest f n) (f (n + 1))
unfolding greatest
greatest_more f n = rw add-one refl

-- each figure is at most the greatest
pub greatest_most : (f : ℕ → ℕ) (n y : ℕ) → 1 ≤ y → y ≤ n → f y ≤ greatest f n
unfolding greatest
greatest_most f zero y lo hi = omega arith
greatest_most f (suc n) y lo hi = last (ℕ_discrete y (suc n)) (greatest_most f n y lo)
  where
    last : Dec (y ≡ suc n) → (y ≤ n → f y ≤ greatest f n) → f y ≤ max (greatest f n) (f (suc n))
    last (yes q) ih = omega (arith, ap f q)
    last (no q) ih = omega (arith, ih (omega (arith, q)))

-- and the greatest at most what each is at most
pub greatest_least : (f : ℕ → ℕ) (c n : ℕ) → ((y : ℕ) → 1 ≤ y → y ≤ n → f y ≤ c) → greatest f n ≤ c
unfolding greatest
greatest_least f c zero le = zero-le
greatest_least f c (suc n) le = omega (arith, greatest_least f c n (λ y lo hi. le y lo (omega arith)), le (suc n) (omega arith) (omega arith))

-- ---- Quotients rounded up

-- n quotients cover x exactly if x/t rounded up is at most n
pub up_at_most : (x t n : ℕ) → 0 < t → x ≤ n * t → up x t ≤ n
unfolding up
up_at_most x t n p h =
    let b : x + (t - 1) < suc n * t = omega (arith, suc-mul n t) in
    let c : (x + (t - 1)) / t < suc n = (div-lt_iff_lt-mul p).1 b in
    omega arith

pub up_covers : (x t : ℕ) → 0 < t → x ≤ up x t * t
unfolding up
up_covers x t p =
    let q = (x + (t - 1)) / t in
    let a : x + (t - 1) < suc q * t = (div-lt_iff_lt-mul p).0 (omega arith) in
    omega (arith, suc-mul q t)

-- ---- Sums that differ in one term

pub upto_but_one : (f g : ℕ → ℕ) (n m : ℕ) → 1 ≤ m → m ≤ n → ((y : ℕ) → y ≢ m → f y ≡ g y) → upto f n + g m ≡ upto g n + f m
unfolding upto
upto_but_one f g zero m lo hi eq = omega arith
upto_but_one f g (suc n) m lo hi eq = last (ℕ_discrete m (suc n)) (upto_but_one f g n m lo)
  where
    last : Dec (m ≡ suc n) → (m ≤ n → ((y : ℕ) → y ≢ m → f y ≡ g y) → upto f n + g m ≡ upto g n + f m) → upto f n + f (suc n) + g m ≡ upto g n + g (suc n) + f m
    last (yes q) ih = omega (arith, ap f q, ap g q, upto_same f g n (λ y a b. eq y (λ e. omega arith)))
    last (no q) ih = omega (arith, ih (omega (arith, q)) eq, eq (suc n) (λ e. q (sym e)))

-- one term alone
pub upto_only : (x k n : ℕ) → 1 ≤ k → k ≤ n → upto (λ y. when (eqb y k) x) n ≡ x
unfolding upto
upto_only x k zero lo hi = omega arith
upto_only x k (suc n) lo hi = last (ℕ_discrete k (suc n)) (upto_only x k n lo)
  where
    none : (m : ℕ) → m < k → upto (λ y. when (eqb y k) x) m ≡ 0
    none zero l = refl
    none (suc m) l = simp (none m (omega arith), ne_eqb (suc m) k (λ e. omega arith))

    last : Dec (k ≡ suc n) → (k ≤ n → upto (λ y. when (eqb y k) x) n ≡ x) → upto (λ y. when (eqb y k) x) n + when (eqb (suc n) k) x ≡ x
    last (yes q) ih = simp (none n (omega arith), eq-eqb (suc n) k (sym q)) (omega arith)
    last (no q) ih = simp (ih (omega (arith, q)), ne_eqb (suc n) k (λ e. q (sym e))) (omega arith)

-- a quotient never falls, whatever divides
pub up_rises : (x y t : ℕ) → x ≤ y → up x t ≤ up y t
unfolding up
up_rises x y zero h = simp div-zero (omega arith)
up_rises x y (suc t) h = up_at_most x (suc t) (up y (suc t)) (omega arith) (omega (arith, up_covers y (suc t) (omega arith)))

-- a part of a sum is at most the whole
pub upto_part : (f : ℕ → ℕ) (m n : ℕ) → m ≤ n → upto f m ≤ upto f n
unfolding upto
upto_part f m zero h = let e : m ≡ 0 = omega arith in omega (arith, ap (upto f) e)
upto_part f m (suc n) h = last (ℕ_discrete m (suc n)) (upto_part f m n)
  where
    last : Dec (m ≡ suc n) → (m ≤ n → upto f m ≤ upto f n) → upto f m ≤ upto f n + f (suc n)
    last (yes q) ih = omega (arith, ap (upto f) q)
    last (no q) ih = omega (arith, ih (omega (arith, q)))

-- what is divided is at least its quotient
pub up_less : (x t : ℕ) → 0 < t → up x t ≤ x
up_less x t p = up_at_most x t x p (omega (arith, mul-le-mul {n₁ = x} {m₁ = 1} {n₂ = x} {m₂ = t} (omega arith) p))

-- nothing yet, as a loop begins
pub upto_none : (f : ℕ → ℕ) → 0 ≡ upto f 0
unfolding upto
upto_none f = refl

-- the first term apart
pub upto_first : (f : ℕ → ℕ) (n : ℕ) → upto f (suc n) ≡ f 1 + upto (λ y. f (suc y)) n
unfolding upto
upto_first f zero = omega arith
upto_first f (suc n) = omega (arith, upto_first f n)

-- ---- Sums of sums

-- row by row or column by column
pub upto_exchange : (f : ℕ → ℕ → ℕ) (m n : ℕ) → upto (λ i. upto (f i) m) n ≡ upto (λ y. upto (λ i. f i y) n) m
unfolding upto
upto_exchange f m zero = omega (arith, upto_even 0 m, mul-zero m)
upto_exchange f m (suc n) = omega (arith, upto_exchange f m n, upto_add (λ y. upto (λ i. f i y) n) (f (suc n)) m)

-- terms 1..n are grouped by `of`, which is one of 1..m for each: each group has its own factor
pub upto_grouped : (f e of : ℕ → ℕ) (m n : ℕ) → ((i : ℕ) → 1 ≤ i → i ≤ n → (1 ≤ of i) × (of i ≤ m))
    → upto (λ i. f i * e (of i)) n ≡ upto (λ y. upto (λ i. when (eqb (of i) y) (f i)) n * e y) m
upto_grouped f e of m n in-range =
    upto_same (λ i. f i * e (of i)) (λ i. upto (λ y. e y * when (eqb (of i) y) (f i)) m) n alone
    ∙ (upto_exchange (λ i y. e y * when (eqb (of i) y) (f i)) m n
    ∙ upto_same (λ y. upto (λ i. e y * when (eqb (of i) y) (f i)) n) (λ y. upto (λ i. when (eqb (of i) y) (f i)) n * e y) m
    (λ y lo hi. sym (upto_scale (e y) (λ i. when (eqb (of i) y) (f i)) n) ∙ mul_comm (e y) (upto (λ i. when (eqb (of i) y) (f i)) n)))
  where
    at : (i y : ℕ) → Dec (y ≡ of i) → when (eqb y (of i)) (f i * e (of i)) ≡ e y * when (eqb (of i) y) (f i)
    at i y (yes q) = rw (q, eq-eqb (of i) (of i) refl) (mul_comm (f i) (e (of i)))
    at i y (no q) = rw (ne_eqb y (of i) q, ne_eqb (of i) y (λ z. q (sym z))) (sym (mul-zero (e y)))

    -- term i is in one group alone
    alone : (i : ℕ) → 1 ≤ i → i ≤ n → f i * e (of i) ≡ upto (λ y. e y * when (eqb (of i) y) (f i)) m
    alone i lo hi =
        sym (upto_only (f i * e (of i)) (of i) m (in-range i lo hi).0 (in-range i lo hi).1)
        ∙ upto_same (λ y. when (eqb y (of i)) (f i * e (of i))) (λ y. e y * when (eqb (of i) y) (f i)) m (λ y a b. at i y (ℕ_discrete y (of i)))
