-- Laws of sets as numbers, member by member. Assumes nothing.
use mathlib.Core.Path.{◌≡◌, refl, sym, ap, ap₂, ◌∙◌}
use mathlib.Core.Bool.{Bool, true, false}
use Prim.Native.Nat.{ℕ, zero, suc, ◌+◌, ◌-◌, ◌*◌, ◌/◌, ◌%◌, ◌^◌, ◌≤◌, ◌<◌, max, min}
use native.Mathlib.Nat.{pow-suc, div-one, div-eq_of_lt, div-div-eq-div-mul, mul_comm, one-mul, mod-eq_of_lt}
use native.Mathlib.Omega.{arith}
use native.Mathlib.Decide.{ℕ_discrete}
use lib.Bits.{bit_or, bit_and, bit_xor, differ, or_lt, or_shr, and_shr, xor_shr, or_step, and_step, xor_step}
use lib.Count.{count_trailing_zeros, under, ones, ones_step}
use lib.Pow.{pow_pos, pow_mono, pow-lt, field, mod-mod-pow}
use borrow.Author.Tests.{lt-ltb, le-ltb}
use Rattle.common.specs.Sums.{when, sum}
use Rattle.common.proofs.FromZero.{sum_front, sum_same, sum_each}
use Rattle.worldfip_sets.specs.Sets.{bit, alone, set_of}

pub bit_zero : (x : ℕ) → bit x 0 ≡ x % 2
unfolding bit
bit_zero x = rw div-one

pub bit_suc : (x r : ℕ) → bit x (suc r) ≡ bit (x / 2) r
unfolding bit
bit_suc x r = rw (pow-suc, mul_comm (2 ^ r) 2, div-div-eq-div-mul)

pub bit_small : (x r : ℕ) → bit x r ≤ 1
unfolding bit
bit_small x r = omega arith

pub bit_none : (r : ℕ) → bit 0 r ≡ 0
bit_none zero = bit_zero 0
bit_none (suc r) = bit_suc 0 r ∙ bit_none r

-- ---- Union, meet, difference

pub bit_or_law : (a b r : ℕ) → bit (bit_or a b) r ≡ max (bit a r) (bit b r)
unfolding bit
bit_or_law a b r = rw (or_shr, or_step (a / 2 ^ r) (b / 2 ^ r)) (omega arith)

pub bit_and_law : (a b r : ℕ) → bit (bit_and a b) r ≡ min (bit a r) (bit b r)
unfolding bit
bit_and_law a b r = rw (and_shr, and_step (a / 2 ^ r) (b / 2 ^ r)) (omega arith)

differ_is : (a b : ℕ) → a ≤ 1 → b ≤ 1 → differ a b + 2 * min a b ≡ a + b
differ_is zero b h k = omega arith
differ_is (suc zero) zero h k = refl
differ_is (suc zero) (suc zero) h k = refl
differ_is (suc zero) (suc (suc b)) h k = omega arith
differ_is (suc (suc a)) b h k = omega arith

-- as a sum, so that `omega` reads it
pub bit_xor_law : (a b r : ℕ) → bit (bit_xor a b) r + 2 * min (bit a r) (bit b r) ≡ bit a r + bit b r
unfolding bit
bit_xor_law a b r =
    rw (xor_shr, xor_step (a / 2 ^ r) (b / 2 ^ r))
    (omega (arith, differ_is (a / 2 ^ r % 2) (b / 2 ^ r % 2) (omega arith) (omega arith)))

-- ---- One member

pub bit_same : (r : ℕ) → bit (2 ^ r) r ≡ 1
bit_same zero = bit_zero 1
bit_same (suc r) =
    let e : 2 ^ suc r / 2 ≡ 2 ^ r = omega arith in
    bit_suc (2 ^ suc r) r ∙ (rw e (bit_same r))

pub bit_other : (r s : ℕ) → (r ≡ s → ⊥) → bit (2 ^ r) s ≡ 0
bit_other zero zero n = absurd (n refl)
bit_other zero (suc s) n = bit_suc 1 s ∙ bit_none s
bit_other (suc r) zero n = bit_zero (2 ^ suc r) ∙ omega arith
bit_other (suc r) (suc s) n =
    let e : 2 ^ suc r / 2 ≡ 2 ^ r = omega arith in
    bit_suc (2 ^ suc r) s ∙ (rw e (bit_other r s (λ q. n (ap suc q))))

-- a shifted 1, as the code has it
pub shifted_one : (r : ℕ) → r < 64 → (1 * 2 ^ r) % 18446744073709551616 ≡ 2 ^ r
shifted_one r l =
    let h : 2 ^ r < 18446744073709551616 = pow-lt {i = r} {j = 64} l in
    rw one-mul (mod-eq_of_lt h)

pub alone_is : (r : ℕ) → r < 64 → alone r ≡ 2 ^ r
unfolding alone
alone_is r l = simp (lt-ltb r 64 l)

pub alone_none : (r : ℕ) → 64 ≤ r → alone r ≡ 0
unfolding alone
alone_none r l = simp (le-ltb r 64 l)

-- ---- A set below 2 ^ n is its members below n

pub bit_above : (n x r : ℕ) → x < 2 ^ n → n ≤ r → bit x r ≡ 0
unfolding bit
bit_above n x r h l =
    let g : x < 2 ^ r = omega (arith, pow_mono {i = n} {j = r} l) in
    rw (div-eq_of_lt g)

-- the members below w, as the code masks them
pub bit_below : (x w r : ℕ) → r < w → bit (x % 2 ^ w) r ≡ bit x r
unfolding bit
bit_below x w r l = ap (λ (n : ℕ). x % 2 ^ n / 2 ^ r % 2) from ∙ ap (λ (n : ℕ). n % 2) (field x (j + 1) r) ∙ mod-mod-pow (x / 2 ^ r) j 1
  where
    j : ℕ
    j = w - 1 - r

    from : w ≡ j + 1 + r
    from = omega arith

half_below : (n x : ℕ) → x < 2 ^ suc n → x / 2 < 2 ^ n
half_below n x h = omega arith

pub same_members : (n x y : ℕ) → x < 2 ^ n → y < 2 ^ n → ((r : ℕ) → r < n → bit x r ≡ bit y r) → x ≡ y
same_members zero x y hx hy e = omega arith
same_members (suc n) x y hx hy e =
    let h : x / 2 ≡ y / 2 =
    same_members n (x / 2) (y / 2) (half_below n x hx) (half_below n y hy) (λ r l. sym (bit_suc x r) ∙ e (suc r) (omega arith) ∙ bit_suc y r) in
    let z : x % 2 ≡ y % 2 = sym (bit_zero x) ∙ e 0 (omega arith) ∙ bit_zero y in
    omega arith

below_own : (x : ℕ) → x < 2 ^ x
below_own zero = omega arith
below_own (suc x) = omega (arith, below_own x)

pub or_assoc : (a b c : ℕ) → bit_or a (bit_or b c) ≡ bit_or (bit_or a b) c
or_assoc a b c =
    same_members n (bit_or a (bit_or b c)) (bit_or (bit_or a b) c) (or_lt n a (bit_or b c) ha (or_lt n b c hb hc)) (or_lt n (bit_or a b) c (or_lt n a b ha hb) hc)
    (λ r l. omega (arith, bit_or_law a (bit_or b c) r, bit_or_law b c r, bit_or_law (bit_or a b) c r, bit_or_law a b r))
  where
    n : ℕ
    n = a + b + c

    ha : a < 2 ^ n
    ha = omega (arith, below_own a, pow_mono {i = a} {j = n} (omega arith))

    hb : b < 2 ^ n
    hb = omega (arith, below_own b, pow_mono {i = b} {j = n} (omega arith))

    hc : c < 2 ^ n
    hc = omega (arith, below_own c, pow_mono {i = c} {j = n} (omega arith))

-- the count of ones is the sum of the bits
pub ones_sum : (n x : ℕ) → x < 2 ^ n → ones x ≡ sum (bit x) n
unfolding sum ones
ones_sum zero x h = let e : x ≡ 0 = omega arith in rw e
ones_sum (suc n) x h =
    ones_step x
    ∙ ap₂ (λ (a b : ℕ). a + b) (sym (bit_zero x))
    (ones_sum n (x / 2) (half_below n x h) ∙ sum_same (bit (x / 2)) (λ r. bit x (suc r)) n (λ r l. sym (bit_suc x r)))
    ∙ sym (sum_front (bit x) n)

pub no_ones : (n x : ℕ) → x < 2 ^ n → ones x ≡ 0 → x ≡ 0
no_ones n x l e =
    same_members n x 0 l (pow_pos n) (λ r k. sum_each (bit x) n r (sym (ones_sum n x l) ∙ e) k ∙ sym (bit_none r))

-- ---- The lowest member

half_some : (x : ℕ) → 0 < x → x % 2 ≡ 0 → 0 < x / 2
half_some x h e = omega arith

-- t is a member of x below k, and the lowest
pub record Lowest (k x t : ℕ) : Type 0 where
  pub within : t < k
  pub member : bit x t ≡ 1
  pub first : (r : ℕ) → r < t → bit x r ≡ 0

later : (x t : ℕ) → x % 2 ≡ 0 → ((r : ℕ) → r < t → bit (x / 2) r ≡ 0) → (r : ℕ) → r < suc t → bit x r ≡ 0
later x t e f zero l = bit_zero x ∙ e
later x t e f (suc r) l = bit_suc x r ∙ f r (omega arith)

pub trailing_lowest : (k x : ℕ) → 0 < x → x < 2 ^ k → Lowest k x (count_trailing_zeros k x)
unfolding count_trailing_zeros
trailing_lowest zero x h l = omega arith
trailing_lowest (suc k) x h l =
    go (x % 2) refl (λ (e : x % 2 ≡ 0). trailing_lowest k (x / 2) (half_some x h e) (half_below k x l))
  where
    go : (d : ℕ) → x % 2 ≡ d → (x % 2 ≡ 0 → Lowest k (x / 2) (count_trailing_zeros k (x / 2)))
        → Lowest (suc k) x (under d (count_trailing_zeros k (x / 2)))
    go zero e ih =
        let i = ih e in
        record {
          within = omega arith;
          member = bit_suc x (count_trailing_zeros k (x / 2)) ∙ i.member;
          first = later x (count_trailing_zeros k (x / 2)) e i.first;
        }
    go (suc d) e ih =
        let o : x % 2 ≡ 1 = omega arith in
        record { within = omega arith; member = bit_zero x ∙ o; first = λ r l. omega arith }

-- ---- The set of a test

pub set_of_below : (f : ℕ → Bool) (n : ℕ) → set_of f n < 2 ^ n
unfolding set_of
set_of_below f zero = omega arith
set_of_below f (suc n) =
    or_lt (suc n) (set_of f n) (when (f n) (2 ^ n)) (omega (arith, set_of_below f n, pow-lt {i = n} {j = suc n} (omega arith))) (one (f n))
  where
    one : (t : Bool) → when t (2 ^ n) < 2 ^ suc n
    one true = pow-lt {i = n} {j = suc n} (omega arith)
    one false = pow_pos (suc n)

pub set_of_bit : (f : ℕ → Bool) (n r : ℕ) → r < n → bit (set_of f n) r ≡ when (f r) 1
unfolding set_of
set_of_bit f zero r l = omega arith
set_of_bit f (suc n) r l = go (ℕ_discrete n r) (set_of_bit f n r)
  where
    hit : (t : Bool) → bit (when t (2 ^ n)) n ≡ when t 1
    hit true = bit_same n
    hit false = bit_none n

    other : (t : Bool) → (n ≡ r → ⊥) → bit (when t (2 ^ n)) r ≡ 0
    other true q = bit_other n r q
    other false q = bit_none r

    go : Dec (n ≡ r) → (r < n → bit (set_of f n) r ≡ when (f r) 1) → bit (bit_or (set_of f n) (when (f n) (2 ^ n))) r ≡ when (f r) 1
    go (yes q) ih =
        rw (← q)
        (omega (arith, bit_or_law (set_of f n) (when (f n) (2 ^ n)) n, bit_above n (set_of f n) n (set_of_below f n) (omega arith), hit (f n)))
    go (no q) ih = omega (arith, bit_or_law (set_of f n) (when (f n) (2 ^ n)) r, other (f n) q, ih (omega (arith, q)))
