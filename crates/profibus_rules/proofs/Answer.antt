-- The computed answer is the page's: the largest TTR at which all streams pass, the first stream that fails at TTR + 1, and refusal 9
-- exactly if a stream fails at L, at the first such stream. Any two answers are equal. Assumes nothing.
use mathlib.Core.Path.{◌≡◌, ap, ◌∙◌}
use mathlib.Core.Bool.{true, false}
use Prim.Native.Nat.{ℕ, zero, suc, ◌+◌, ◌-◌, ◌≤◌, ◌<◌, min}
use native.Mathlib.Nat.{le_refl}
use native.Mathlib.Decide.{ℕ_discrete, dec_le}
use native.Mathlib.Omega.{arith}
use borrow.Author.Tests.{lt-ltb, le-ltb, ltb-true, ltb-false}
use Rattle.common.proofs.Firsts.{First, first_is, first_hit, first_none}
use Rattle.profibus_rules.specs.Ring.{Ring, messages, rotation, needed, fails, Declared}
use Rattle.profibus_rules.specs.Target.{AllPass, FirstFails, Limited, bears, least, target, first_failing}
use Rattle.profibus_rules.proofs.Rule.{needed_mono, all_pass_below, passing_bears, bearing_passes}

-- ---- Only one answer

module _ (R : Ring) where
  -- at no higher target do all pass
  pub largest : (ttr i : ℕ) → Limited R ttr i → (u : ℕ) → AllPass R u → u ≤ ttr
  largest ttr i a u p = go (dec_le u ttr)
    where
      go : Dec (u ≤ ttr) → u ≤ ttr
      go (yes l) = l
      go (no l) = absurd (omega (arith, a.by.fails, p.each i a.by.there, needed_mono R (ttr + 1) u i (omega (arith, l))))

  first_no_later : (ttr i j : ℕ) → FirstFails R ttr i → FirstFails R ttr j → i ≤ j
  first_no_later ttr i j a b = go (dec_le i j)
    where
      go : Dec (i ≤ j) → i ≤ j
      go (yes l) = l
      go (no l) = absurd (omega (arith, b.fails, a.before j b.there.0 (omega (arith, l))))

  pub one_first : (ttr i j : ℕ) → FirstFails R ttr i → FirstFails R ttr j → i ≡ j
  one_first ttr i j a b = omega (arith, first_no_later ttr i j a b, first_no_later ttr j i b a)

  pub one_answer : (a i b j : ℕ) → Limited R a i → Limited R b j → (a ≡ b) × (i ≡ j)
  one_answer a i b j x y =
      let e : a ≡ b = omega (arith, largest a i x b y.passes, largest b j y a x.passes) in
      (e, one_first (a + 1) i j x.by (rw e y.by))

  pub answer_or_refusal : (a i j : ℕ) → Limited R a i → FirstFails R R.latency j → ⊥
  answer_or_refusal a i j x y = omega (arith, y.fails, x.passes.each j y.there, needed_mono R R.latency a j x.at_least)

-- ---- The first stream that fails

module _ (R : Ring) (ttr : ℕ) where
  failing : (i : ℕ) → (R.stream i).deadline < needed R ttr i → fails R ttr i ≡ true
  unfolding fails
  failing i l = lt-ltb (R.stream i).deadline (needed R ttr i) l

  passing : (i : ℕ) → needed R ttr i ≤ (R.stream i).deadline → fails R ttr i ≡ false
  unfolding fails
  passing i l = le-ltb (R.stream i).deadline (needed R ttr i) l

  first : First (fails R ttr) R.number 1 (first_failing R ttr)
  unfolding first_failing
  first = first_is (fails R ttr) R.number 1

  passed : (i : ℕ) → 1 ≤ i → i < first_failing R ttr → needed R ttr i ≤ (R.stream i).deadline
  unfolding fails
  passed i lo hi = ltb-false (R.stream i).deadline (needed R ttr i) (first.fails i lo hi)

  -- where one is named, it is the first that fails
  pub named_fails : first_failing R ttr ≤ R.number → FirstFails R ttr (first_failing R ttr)
  unfolding fails
  named_fails l =
      record {
        there = (first.from, l);
        fails = ltb-true (R.stream (first_failing R ttr)).deadline (needed R ttr (first_failing R ttr)) (first.holds (omega arith));
        before = passed;
      }

  -- where none is, all pass
  pub none_fails : R.number < first_failing R ttr → AllPass R ttr
  none_fails l = record { each = λ i on. passed i on.0 (omega arith) }

  -- the first that fails is named
  pub fails_named : (i : ℕ) → FirstFails R ttr i → first_failing R ttr ≡ i
  unfolding first_failing
  fails_named i f =
      let e : 1 + (i - 1) ≡ i = omega (arith, f.there) in
      first_hit (fails R ttr) (i - 1) 1 R.number (λ j lo hi. passing j (f.before j lo (omega arith))) (rw e (failing i f.fails)) (omega (arith, f.there)) ∙ e

  pub none_named : AllPass R ttr → first_failing R ttr ≡ 1 + R.number
  unfolding first_failing
  none_named p = first_none (fails R ttr) 1 R.number (λ j lo hi. passing j (p.each j (lo, omega arith)))

-- ---- The least of figures

pub least_most : (f : ℕ → ℕ) (n i : ℕ) → 1 ≤ i → i ≤ n → least f n ≤ f i
unfolding least
least_most f zero i lo hi = omega arith
least_most f (suc n) i lo hi = last (ℕ_discrete i (suc n)) (least_most f n i lo)
  where
    last : Dec (i ≡ suc n) → (i ≤ n → least f n ≤ f i) → min (least f n) (f (suc n)) ≤ f i
    last (yes e) ih = omega (arith, ap f e)
    last (no e) ih = omega (arith, ih (omega (arith, e)))

pub least_greatest : (f : ℕ → ℕ) (x n : ℕ) → 1 ≤ n → ((i : ℕ) → 1 ≤ i → i ≤ n → x ≤ f i) → x ≤ least f n
unfolding least
least_greatest f x zero p le = omega arith
least_greatest f x (suc zero) p le = omega (arith, le 1 (le_refl 1) (le_refl 1))
least_greatest f x (suc (suc n)) p le =
    omega (arith, least_greatest f x (suc n) (omega arith) (λ i lo hi. le i lo (omega arith)), le (suc (suc n)) (omega arith) (le_refl (suc (suc n))))

-- ---- The answer

module _ (R : Ring) (declared : Declared R) where
  -- all streams pass exactly if the least that they bear bears the rotation
  pub all_bear : (ttr : ℕ) → AllPass R ttr → rotation R ttr ≤ least (bears R) R.number
  all_bear ttr p =
      least_greatest (bears R) (rotation R ttr) R.number declared.number_in.0 (λ i lo hi. passing_bears R declared i (lo, hi) ttr (p.each i (lo, hi)))

  pub least_bears : (ttr : ℕ) → rotation R ttr ≤ least (bears R) R.number → AllPass R ttr
  least_bears ttr l =
      record { each = λ i on. bearing_passes R declared i on ttr (omega (arith, least_most (bears R) R.number i on.0 on.1)) }

  -- where all streams pass at L, the computed answer is the page's
  pub target_limited : AllPass R R.latency → Limited R (target R) (first_failing R (target R + 1))
  unfolding target rotation
  target_limited p =
      let l : R.latency + messages R ≤ least (bears R) R.number = all_bear R.latency p in
      record {
        at_least = omega arith;
        passes = least_bears (target R) (omega arith);
        by = named_fails R (target R + 1) (some (dec_le (first_failing R (target R + 1)) R.number));
      }
    where
      some : Dec (first_failing R (target R + 1) ≤ R.number) → first_failing R (target R + 1) ≤ R.number
      some (yes l) = l
      some (no l) = absurd (omega (arith, all_bear (target R + 1) (none_fails R (target R + 1) (omega (arith, l)))))

  -- and the page's answer is the computed one
  pub limited_is : (ttr i : ℕ) → Limited R ttr i → (ttr ≡ target R) × (i ≡ first_failing R (target R + 1))
  limited_is ttr i a =
      one_answer R ttr i (target R) (first_failing R (target R + 1)) a (target_limited (all_pass_below R R.latency ttr a.at_least a.passes))
