-- Laws of decimal numbers as text: what the digits say, that none leads with a zero, and how many there are. Assumes nothing.
use mathlib.Core.Path.{◌≡◌, refl, sym, ap, ◌∙◌}
use mathlib.Core.List.{List, [], ◌∷◌, ◌++◌}
use Prim.Native.Nat.{ℕ, zero, suc, ◌+◌, ◌-◌, ◌*◌, ◌/◌, ◌^◌, ◌≤◌, ◌<◌}
use native.Mathlib.Nat.{pow-suc, pow-succ', one-le-pow, div-div-eq-div-mul, div-lt_iff_lt-mul, le-div_iff_mul-le}
use native.Mathlib.Numerals.{add-one}
use native.Mathlib.Omega.{arith}
use native.Mathlib.Decide.{ℕ_discrete}
use lib.Dec.{lit<}
use lib.ListN.{length, get_or, set, length-append, get_or-append}
use lib.Seq.{sets}
use borrow.Author.Tests.{lt-ltb, le-ltb, ltb-true, ltb-false}
use Rattle.common.specs.Sums.{first_of}
use Rattle.common.proofs.Firsts.{first_is, first_hit}
use Rattle.text.specs.Text.{digit, places, holds, width_of, decimal, read_behind}
use Rattle.text.proofs.Writing.{sets_more, sets_after}

-- ---- k digits

pub length_places : (k n : ℕ) → length (places k n) ≡ k
unfolding places
length_places zero n = refl
length_places (suc k) n = simp (length-append, length_places k (n / 10)) (add-one k)

-- one digit more, as code counts
pub places_more : (k n : ℕ) → places (k + 1) n ≡ places k (n / 10) ++ (digit n ∷ [])
unfolding places
places_more k n = rw add-one refl

-- the last digit is stored first
pub last_digit_first : (o : List ℕ) (at k n : ℕ) → sets (set o (at + k) (digit n)) at (places k (n / 10)) ≡ sets o at (places (k + 1) n)
last_digit_first o at k n =
    let p = places k (n / 10) in
    sets_after p o at (at + k) (digit n) (omega (arith, length_places k (n / 10)))
    ∙ (ap (λ (i : ℕ). set (sets o at p) (at + i) (digit n)) (sym (length_places k (n / 10))) ∙ (sets_more p o at (digit n) ∙ ap (sets o at) (sym (places_more k n))))

-- ---- How many digits

-- the quotient by b to the k, once more by b
pub quotient_more : (b n k : ℕ) → n / b ^ k / b ≡ n / b ^ (k + 1)
quotient_more b n k = div-div-eq-div-mul n (b ^ k) b ∙ ap (λ (m : ℕ). n / m) (sym (pow-suc b k) ∙ ap (λ (m : ℕ). b ^ m) (sym (add-one k)))

-- it is 0 exactly if k digits hold n
pub quotient_some : (n k : ℕ) → 0 < n / 10 ^ k → 10 ^ k ≤ n
quotient_some n k h = omega (arith, (le-div_iff_mul-le {k = 10 ^ k} {x = 1} {y = n} (one-le-pow k 10 (lit< tt))).0 h)

pub quotient_none : (n k : ℕ) → n / 10 ^ k ≡ 0 → n < 10 ^ k
quotient_none n k e = omega (arith, (div-lt_iff_lt-mul {k = 10 ^ k} {x = n} {y = 1} (one-le-pow k 10 (lit< tt))).0 (omega arith))

-- a number of 64 bits has at most 20 digits
pub twenty_hold : (n k : ℕ) → n < 2 ^ 64 → ((j : ℕ) → 1 ≤ j → j < k → 10 ^ j ≤ n) → k ≤ 20
twenty_hold n k s few = let more : (20 < k → ⊥) = λ h. omega (arith, few 20 (omega arith) h) in omega (arith, more)

-- fewer than k digits do not hold n, and k do
pub width_is : (n k : ℕ) → n < 2 ^ 64 → 1 ≤ k → ((j : ℕ) → 1 ≤ j → j < k → 10 ^ j ≤ n) → n < 10 ^ k → k ≡ width_of n
unfolding width_of holds
width_is n k s l few enough =
    let d = k - 1 in
    let e : 1 + d ≡ k = omega arith in
    sym (first_hit (holds n) d 1 20 (λ j lo hi. le-ltb n (10 ^ j) (few j lo (omega arith))) (lt-ltb n (10 ^ (1 + d)) (rw e enough)) (omega (arith, twenty_hold n k s few)) ∙ e)

pub length_decimal : (n : ℕ) → length (decimal n) ≡ width_of n
unfolding decimal
length_decimal n = length_places (width_of n) n

-- ---- What the digits say

read_append : (v : ℕ) (p q : List ℕ) → read_behind v (p ++ q) ≡ read_behind (read_behind v p) q
unfolding read_behind
read_append v [] q = refl
read_append v (d ∷ p) q = read_append (v * 10 + (d - 48)) p q

read_places : (k n : ℕ) → n < 10 ^ k → read_behind 0 (places k n) ≡ n
unfolding read_behind places
read_places zero n s = omega arith
read_places (suc k) n s =
    let t : n / 10 < 10 ^ k = (div-lt_iff_lt-mul (lit< tt)).1 (rw pow-suc at s) in
    read_append 0 (places k (n / 10)) (digit n ∷ []) ∙ omega (arith, read_places k (n / 10) t)

-- the fewest digits hold n, and fewer do not
pub width_holds : (n : ℕ) → n < 10 ^ 20 → n < 10 ^ width_of n
unfolding width_of holds
width_holds n s =
    let f = first_is (holds n) 20 1 in
    let far : (first_of (holds n) 20 1 ≡ 21 → ⊥) = λ e. omega (arith, ltb-false n (10 ^ 20) (f.fails 20 (omega arith) (omega arith))) in
    ltb-true n (10 ^ first_of (holds n) 20 1) (f.holds (omega (arith, far, f.to)))

-- the digits of a number say that number
pub decimal_reads_back : (n : ℕ) → n < 10 ^ 20 → read_behind 0 (decimal n) ≡ n
unfolding decimal
decimal_reads_back n s = read_places (width_of n) n (width_holds n s)

-- the first of k + 1 digits
first_digit : (k n : ℕ) → n < 10 ^ suc k → get_or (places (suc k) n) 0 0 ≡ 48 + n / 10 ^ k
unfolding places
first_digit zero n s = omega arith
first_digit (suc k) n s =
    let t : n / 10 < 10 ^ suc k = (div-lt_iff_lt-mul (lit< tt)).1 (rw pow-suc at s) in
    get_or-append (places (suc k) (n / 10)) (digit n ∷ []) 0 0 (omega (arith, length_places (suc k) (n / 10)))
    ∙ (first_digit k (n / 10) t ∙ ap (λ (m : ℕ). 48 + m) (div-div-eq-div-mul n 10 (10 ^ k) ∙ ap (λ (m : ℕ). n / m) (sym (pow-succ' 10 k))))

-- no number but 0 begins with `0`
pub no_leading_zero : (n : ℕ) → 0 < n → n < 10 ^ 20 → 48 < get_or (decimal n) 0 0
unfolding decimal width_of holds
no_leading_zero n p s =
    let f = first_is (holds n) 20 1 in
    let k = width_of n - 1 in
    let e : suc k ≡ width_of n = omega (arith, f.from) in
    let h : n < 10 ^ suc k = rw e (width_holds n s) in
    rw (← e, first_digit k n h) (omega (arith, some k (ℕ_discrete k 0) (λ lo. ltb-false n (10 ^ k) (f.fails k lo (omega arith)))))
  where
    some : (k : ℕ) → Dec (k ≡ 0) → (1 ≤ k → 10 ^ k ≤ n) → 1 ≤ n / 10 ^ k
    some k (yes e) fewer = rw e (omega arith)
    some k (no e) fewer = (le-div_iff_mul-le {k = 10 ^ k} {x = 1} {y = n} (one-le-pow k 10 (lit< tt))).1 (omega (arith, fewer (omega (arith, e))))
