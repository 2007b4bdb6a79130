-- Page 02, 'Ask 5': what users gain who add legs. Turned up leg by leg and then added, legs come to less than one ns a leg more than their
-- sum turned up once; in us to less than one us a leg more; and never to less. Assumes nothing.
use mathlib.Core.Path.{◌≡◌, refl}
use Prim.Native.Nat.{ℕ, zero, suc, ◌+◌, ◌-◌, ◌*◌, ◌≤◌, ◌<◌}
use native.Mathlib.Nat.{mul-zero, mul-add, mul_comm, mul-div-le, suc-mul, lt_of_mul-lt-mul_left}
use native.Mathlib.Omega.{arith}
use Rattle.common.specs.Sums.{upto, up}
use Rattle.common.proofs.Sums.{up_covers}
use Rattle.units.specs.Units.{bp, micros_up, nanos_up}
use Rattle.units.proofs.Rounding.{up_is_least}

-- ---- For any unit, of which p last as long as q bp

-- legs 1..n, each turned up and then added
abbrev added : (p q : ℕ) → (ℕ → ℕ) → ℕ → ℕ
added p q leg n = upto (λ i. up (p * leg i) q) n

module _ (p q : ℕ) (some : 0 < q) (leg : ℕ → ℕ) where
  -- their time is covered
  covered : (n : ℕ) → p * upto leg n ≤ q * added p q leg n
  unfolding upto
  covered zero = omega (arith, mul-zero p)
  covered (suc n) =
      let b = leg (suc n) in
      omega (arith, covered n, mul-add p (upto leg n) b, mul-add q (added p q leg n) (up (p * b) q), up_covers (p * b) q some, mul_comm (up (p * b) q) q)

  -- a leg turned up is less than one unit longer
  part : (x : ℕ) → q * up x q ≤ x + (q - 1)
  unfolding up
  part x = mul-div-le (x + (q - 1)) q

  -- so are all of them together, for each leg
  close : (n : ℕ) → q * added p q leg n + n ≤ p * upto leg n + q * n
  unfolding upto
  close zero = omega (arith, mul-zero q)
  close (suc n) =
      let b = leg (suc n) in
      omega (arith, close n, mul-add p (upto leg n) b, mul-add q (added p q leg n) (up (p * b) q), suc-mul n q, mul_comm n q, mul_comm (suc n) q, part (p * b))

  -- added and then turned up, as a path's total is, they come to less
  never_below : (n : ℕ) → up (p * upto leg n) q ≤ added p q leg n
  never_below n = (up_is_least (p * upto leg n) q some).least (added p q leg n) (covered n)

  less_than_one_a_leg : (n : ℕ) → 0 < n → added p q leg n < up (p * upto leg n) q + n
  less_than_one_a_leg n more =
      let total = up (p * upto leg n) q in
      lt_of_mul-lt-mul_left q (omega (arith, close n, (up_is_least (p * upto leg n) q some).enough, mul-add q total n))

-- ---- In ns, and in us

pub less_than_a_ns_a_leg : (leg : ℕ → ℕ) (n : ℕ) → 0 < n → upto (λ i. (nanos_up (bp (leg i))).0) n < (nanos_up (bp (upto leg n))).0 + n
unfolding nanos_up
less_than_a_ns_a_leg leg n = less_than_one_a_leg 78125 6 (omega arith) leg n

pub never_below_in_ns : (leg : ℕ → ℕ) (n : ℕ) → (nanos_up (bp (upto leg n))).0 ≤ upto (λ i. (nanos_up (bp (leg i))).0) n
unfolding nanos_up
never_below_in_ns leg n = never_below 78125 6 (omega arith) leg n

pub less_than_a_us_a_leg : (leg : ℕ → ℕ) (n : ℕ) → 0 < n → upto (λ i. (micros_up (bp (leg i))).0) n < (micros_up (bp (upto leg n))).0 + n
unfolding micros_up
less_than_a_us_a_leg leg n = less_than_one_a_leg 625 48 (omega arith) leg n

pub never_below_in_us : (leg : ℕ → ℕ) (n : ℕ) → (micros_up (bp (upto leg n))).0 ≤ upto (λ i. (micros_up (bp (leg i))).0) n
unfolding micros_up
never_below_in_us leg n = never_below 625 48 (omega arith) leg n

-- ten legs of 49 bp: added in us they are nine us above their sum turned up once, added in ns one ns
ten_legs : (upto (λ i. (micros_up (bp 49)).0) 10 ≡ 6390) × ((micros_up (bp 490)).0 ≡ 6381) × (upto (λ i. (nanos_up (bp 49)).0) 10 ≡ 6380210) × ((nanos_up (bp 490)).0 ≡ 6380209)
unfolding upto micros_up nanos_up up
ten_legs = (refl, refl, refl, refl)
