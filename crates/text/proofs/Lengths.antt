-- How long numbers are, and texts one behind another, at most. Assumes nothing.
use mathlib.Core.List.{List}
use Prim.Native.Nat.{ℕ, zero, suc, ◌*◌, ◌^◌, ◌≤◌, ◌<◌}
use native.Mathlib.Nat.{suc-mul}
use native.Mathlib.Omega.{arith}
use lib.ListN.{length, length-append}
use borrow.Author.Tests.{ltb-false}
use Rattle.common.specs.Sums.{first_of}
use Rattle.common.proofs.Firsts.{first_is}
use Rattle.text.specs.Text.{holds, width_of, decimal, texts}
use Rattle.text.proofs.Numbers.{length_decimal}

-- a number that k digits hold, of 1 to 20, has at most k
pub decimal_most : (k n : ℕ) → 1 ≤ k → k ≤ 20 → n < 10 ^ k → length (decimal n) ≤ k
unfolding width_of holds
decimal_most k n lo hi s =
    let f = first_is (holds n) 20 1 in
    let less : (k < first_of (holds n) 20 1 → ⊥) = λ h. omega (arith, ltb-false n (10 ^ k) (f.fails k lo h)) in
    omega (arith, length_decimal n, less)

-- no number is written with more than 21
pub decimal_any : (n : ℕ) → length (decimal n) ≤ 21
unfolding width_of
decimal_any n = omega (arith, length_decimal n, (first_is (holds n) 20 1).to)

-- n texts of at most c bytes each
pub texts_most : (t : ℕ → List ℕ) (c n : ℕ) → ((i : ℕ) → i < n → length (t i) ≤ c) → length (texts t n) ≤ n * c
unfolding texts
texts_most t c zero le = omega arith
texts_most t c (suc n) le = omega (arith, length-append (texts t n) (t n), texts_most t c n (λ i h. le i (omega arith)), le n (omega arith), suc-mul n c)
