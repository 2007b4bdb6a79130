-- Laws of sums that begin at 0. Assumes nothing.
use mathlib.Core.Path.{◌≡◌, refl, ap}
use Prim.Native.Nat.{ℕ, zero, suc, ◌+◌, ◌<◌}
use native.Mathlib.Omega.{arith}
use native.Mathlib.Decide.{ℕ_discrete}
use Rattle.common.specs.Sums.{sum}

-- the first term apart
pub sum_front : (f : ℕ → ℕ) (n : ℕ) → sum f (suc n) ≡ f 0 + sum (λ r. f (suc r)) n
unfolding sum
sum_front f zero = omega arith
sum_front f (suc n) = omega (arith, sum_front f n)

pub sum_same : (f g : ℕ → ℕ) (n : ℕ) → ((r : ℕ) → r < n → f r ≡ g r) → sum f n ≡ sum g n
unfolding sum
sum_same f g zero e = refl
sum_same f g (suc n) e = omega (arith, sum_same f g n (λ r l. e r (omega arith)), e n (omega arith))

pub sum_add : (f g : ℕ → ℕ) (n : ℕ) → sum (λ r. f r + g r) n ≡ sum f n + sum g n
unfolding sum
sum_add f g zero = refl
sum_add f g (suc n) = omega (arith, sum_add f g n)

pub sum_none : (f : ℕ → ℕ) (n : ℕ) → ((r : ℕ) → r < n → f r ≡ 0) → sum f n ≡ 0
unfolding sum
sum_none f zero e = refl
sum_none f (suc n) e = omega (arith, sum_none f n (λ r l. e r (omega arith)), e n (omega arith))

-- a sum of 0 has no term above 0
pub sum_each : (f : ℕ → ℕ) (n r : ℕ) → sum f n ≡ 0 → r < n → f r ≡ 0
unfolding sum
sum_each f zero r e l = omega arith
sum_each f (suc n) r e l = last (ℕ_discrete r n) (sum_each f n r)
  where
    last : Dec (r ≡ n) → (sum f n ≡ 0 → r < n → f r ≡ 0) → f r ≡ 0
    last (yes q) ih = omega (arith, ap f q)
    last (no q) ih = ih (omega arith) (omega (arith, q))

-- two sums whose terms differ at b alone
pub sum_change : (f g : ℕ → ℕ) (d b n : ℕ) → b < n → f b ≡ g b + d → ((r : ℕ) → (b ≡ r → ⊥) → f r ≡ g r) → sum f n ≡ sum g n + d
unfolding sum
sum_change f g d b zero l e o = omega arith
sum_change f g d b (suc n) l e o = last (ℕ_discrete b n) (sum_change f g d b n)
  where
    last : Dec (b ≡ n) → (b < n → f b ≡ g b + d → ((r : ℕ) → (b ≡ r → ⊥) → f r ≡ g r) → sum f n ≡ sum g n + d) → sum f (suc n) ≡ sum g (suc n) + d
    last (yes q) ih =
        let a : f n ≡ g n + d = rw q at e in
        omega (arith, sum_same f g n (λ r k. o r (λ p. omega arith)))
    last (no q) ih = omega (arith, ih (omega (arith, q)) e o, o n q)
