-- Figures that go to the places of the streams, key by key, and what was gathered by the keys. Assumes nothing.
use mathlib.Core.Path.{◌≡◌, refl, sym, ap, ◌∙◌}
use mathlib.Core.Bool.{false}
use mathlib.Core.List.{List}
use Prim.Native.Nat.{ℕ, ◌+◌, ◌-◌, ◌≤◌, ◌<◌}
use native.Mathlib.Decide.{ℕ_discrete}
use native.Mathlib.Omega.{arith}
use borrow.Author.Tests.{eq-eqb, ne_eqb}
use lib.Dec.{eqb}
use lib.ListN.{length, set, take, length-set}
use lib.Seq.{length-take-le, get_or-take, get_or-set_same, get_or-set_other}
use Rattle.std.proofs.Common.{Option, None, Some}
use Rattle.std.specs.List.{AllWithin, HoldsAt}
use Rattle.std.specs.Option.{MatchOption, unwrap_or}
use Rattle.common.specs.Sums.{first_of}
use Rattle.common.proofs.Firsts.{first_here, first_nowhere}
use Rattle.common.proofs.Runs.{filled_at, Filling}
use Rattle.pnet_turn.specs.Turn.{at}
use Rattle.pnet_urgent.specs.Masters.{index_at, deadline_at, Gathered, Spread}

-- one more goes to a place where none went before
pub spread_more : {keys : List ℕ} {start n : ℕ} {f : ℕ → ℕ} {old run : List ℕ} (x : ℕ) → Spread keys start n f old run
    → index_at keys (start + n) < length old → ((q : ℕ) → q < n → index_at keys (start + q) ≡ index_at keys (start + n) → ⊥) → x ≡ f n
    → Spread keys start (n + 1) f old (set run (index_at keys (start + n)) x)
spread_more {keys} {start} {n} {f} {old} {run} x s inside new e =
    record {
      long = length-set run (index_at keys (start + n)) x ∙ s.long;
      put = λ r l. put' r l (ℕ_discrete r n);
      others = λ z h. get_or-set_other run (index_at keys (start + n)) z x 0 (λ q. h n (omega arith) (sym q)) ∙ s.others z (λ r l. h r (omega arith));
    }
  where
    put' : (r : ℕ) → r < n + 1 → Dec (r ≡ n) → at (set run (index_at keys (start + n)) x) (index_at keys (start + r)) ≡ f r
    put' r l (yes q) = rw q (get_or-set_same run (index_at keys (start + n)) x 0 (omega (arith, s.long)) ∙ e)
    put' r l (no d) =
        get_or-set_other run (index_at keys (start + n)) (index_at keys (start + r)) x 0 (new r (omega (arith, d))) ∙ s.put r (omega (arith, d))

-- runs filled by the keys are gathered
pub gathered : {keys spacings jitters : List ℕ} {start k n : ℕ} {ts js ds Ts Js Ds : List ℕ}
    → Filling (λ r. at spacings (index_at keys (start + r))) k ts Ts
    → Filling (λ r. at jitters (index_at keys (start + r))) k js Js
    → Filling (λ r. deadline_at keys (start + r)) k ds Ds
    → k ≡ n → Gathered keys spacings jitters start n Ts Js Ds
gathered {keys} {spacings} {jitters} {start} {k} {n} {ts} {js} {ds} p q e all =
    record {
      spacings_are = λ r l. ap (λ (t : List ℕ). at t r) p.is ∙ filled_at (λ r. at spacings (index_at keys (start + r))) k r ts (omega arith);
      jitters_are = λ r l. ap (λ (t : List ℕ). at t r) q.is ∙ filled_at (λ r. at jitters (index_at keys (start + r))) k r js (omega arith);
      deadlines_are = λ r l. ap (λ (t : List ℕ). at t r) e.is ∙ filled_at (λ r. deadline_at keys (start + r)) k r ds (omega arith);
    }

-- the first stream whose figure is 0, where the search goes over the first n
module _ (l : List ℕ) (n : ℕ) (fits : n ≤ length l) where
  abbrev front : List ℕ
  front = take n l

  missed : (i : ℕ) → i ≤ n → AllWithin (λ x. x ≡ 0 → ⊥) front 0 i → (j : ℕ) → j < i → eqb (at l (j + 1 - 1)) 0 ≡ false
  missed i within none j h =
      let b : j + 1 - 1 ≡ j = omega arith in
      rw b (ne_eqb (at l j) 0 (λ e. none j 0 (omega arith) h (get_or-take n l j 0 (omega arith) ∙ e)))

  pub first_zero : (r : Option ℕ)
      → MatchOption r (AllWithin (λ x. x ≡ 0 → ⊥) front 0 (length front)) (λ i. (i < length front) × HoldsAt (λ x. x ≡ 0) front i × AllWithin (λ x. x ≡ 0 → ⊥) front 0 i)
      → unwrap_or r n + 1 ≡ first_of (λ k. eqb (at l (k - 1)) 0) n 1
  first_zero None none =
      first_nowhere (λ k. eqb (at l (k - 1)) 0) n n (missed n (omega arith) (λ k d lo hi. none k d lo (omega (arith, length-take-le n l fits)))) refl
  first_zero (Some i) at-i =
      let inside : i < n = omega (arith, at-i.0, length-take-le n l fits) in
      let b : i + 1 - 1 ≡ i = omega arith in
      first_here (λ k. eqb (at l (k - 1)) 0) n i (missed i (omega arith) at-i.2) inside
      (rw b (eq-eqb (at l i) 0 (sym (get_or-take n l i 0 inside) ∙ at-i.1 0)))
