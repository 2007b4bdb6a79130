-- Laws of the streams that have a figure other than 0 in a run, as the code counts and finds them. Assumes nothing.
use mathlib.Core.Path.{◌≡◌, refl, sym, ap, ◌∙◌}
use mathlib.Core.Bool.{Bool, true, false, not}
use mathlib.Core.List.{List}
use Prim.Native.Nat.{ℕ, zero, suc, ◌+◌, ◌≤◌, ◌<◌}
use native.Mathlib.Numerals.{add-one}
use native.Mathlib.Omega.{arith}
use lib.ListN.{length, take}
use Rattle.std.specs.Prelude.{Option, Some, None, MatchOption, eqb, count_by}
use Rattle.std.specs.Option.{unwrap_or}
use Rattle.std.specs.List.{AllWithin, HoldsAt}
use Rattle.std.proofs.lemmas.List.{get_or-take, length-take-le}
use Rattle.std.proofs.lemmas.List.Sums.{count_by_more_yes, count_by_more_no}
use Rattle.common.specs.Sums.{when, sum}
use Rattle.common.proofs.Firsts.{first_is, found_first, found_none}
use Rattle.text.specs.Text.{item}
use Rattle.report_faults.specs.Faults.{exceeds, exceeding, first}

module _ (run : ℕ → ℕ) where
  -- no more than there are
  pub exceeding_few : (n : ℕ) → exceeding run n ≤ n
  unfolding exceeding sum
  exceeding_few zero = omega arith
  exceeding_few (suc n) = omega (arith, one (exceeds run n), exceeding_few n)
    where
      one : (b : Bool) → when b 1 ≤ 1
      one true = omega arith
      one false = omega arith

  pub first_few : (n : ℕ) → first run n ≤ n
  unfolding first
  first_few n = omega (arith, (first_is (exceeds run) n 0).to)

-- ---- What the library's iterators answer of the first n figures of a run

-- the code's test of a figure, and what it says
abbrev pub other : ℕ → Bool
other x = not (eqb x 0)

abbrev pub Other : ℕ → Type 0
Other x = other x ≡ true

abbrev pub Zero : ℕ → Type 0
Zero x = other x ≡ false

module _ (xs : List ℕ) where
  -- the first of them, where there is one
  pub first_found : (n : ℕ) → n ≤ length xs → (r : Option ℕ)
      → MatchOption r (AllWithin Zero (take n xs) 0 (length (take n xs)))
      (λ i. (i < length (take n xs)) × HoldsAt Other (take n xs) i × AllWithin Zero (take n xs) 0 i)
      → unwrap_or r n ≡ first (item xs) n
  unfolding first exceeds
  first_found n h None m =
      found_none (exceeds (item xs)) n n (λ j l. ap other (sym (get_or-take n xs j 0 l)) ∙ m j 0 (omega arith) (omega (arith, length-take-le n xs h))) refl
  first_found n h (Some i) m =
      let l : i < n = omega (arith, length-take-le n xs h, m.0) in
      found_first (exceeds (item xs)) n i
      (λ j k. ap other (sym (get_or-take n xs j 0 (omega arith))) ∙ m.2 j 0 (omega arith) k)
      (ap other (sym (get_or-take n xs i 0 l)) ∙ m.1 0) l

  -- how many they are
  pub exceeding_counted : (n : ℕ) → n ≤ length xs → count_by other (take n xs) ≡ exceeding (item xs) n
  unfolding exceeding sum exceeds
  exceeding_counted zero h = refl
  exceeding_counted (suc n) h = split (exceeding_counted n (omega arith)) (other (item xs n)) refl
    where
      split : count_by other (take n xs) ≡ exceeding (item xs) n → (b : Bool) → other (item xs n) ≡ b → count_by other (take (suc n) xs) ≡ exceeding (item xs) n + when (other (item xs n)) 1
      split before true e = let more = count_by_more_yes other xs n 0 (omega arith) e in rw e (omega (arith, simp add-one at more, before))
      split before false e = let more = count_by_more_no other xs n 0 (omega arith) e in rw e (omega (arith, simp add-one at more, before))
