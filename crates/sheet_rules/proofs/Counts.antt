-- How many records have a number in their first field, and the greatest second field of those. Assumes nothing.
use mathlib.Core.Path.{◌≡◌, refl, ap, ◌∙◌}
use mathlib.Core.Bool.{Bool, true, false}
use mathlib.Core.List.{List, [], ◌∷◌, ◌++◌}
use Prim.Native.Nat.{ℕ, zero, suc, ◌+◌, ◌-◌, ◌≤◌, ◌<◌, max}
use native.Mathlib.Nat.{not-suc-le-zero}
use native.Mathlib.Numerals.{unary_clauses}
use native.Mathlib.Omega.{arith}
use borrow.Author.Tests.{eqb-true, ne_eqb, eq-eqb}
use lib.ListN.{length, get_or}
use lib.Dec.{eqb}
use Rattle.common.specs.Sums.{when, upto, greatest}
use Rattle.common.proofs.Sums.{upto_same, upto_first, greatest_most, greatest_least}
use Rattle.sheet_record.specs.declared.Record.{Record}
use Rattle.sheet_record.specs.Kinds.{nothing}
use Rattle.sheet_rules.specs.Sheets.{count_of, longest_of}

pub count_append : (x : ℕ) (rs qs : List Record) → count_of x (rs ++ qs) ≡ count_of x rs + count_of x qs
unfolding count_of
count_append x [] qs = omega arith
count_append x (r ∷ rs) qs = omega (arith, count_append x rs qs)

-- one record more
pub count_more : (x : ℕ) (rs : List Record) (r : Record) → count_of x (rs ++ (r ∷ [])) ≡ count_of x rs + when (eqb r.a x) 1
unfolding count_of
count_more x rs r = omega (arith, count_append x rs (r ∷ []))

longest_append : (x : ℕ) (rs qs : List Record) → longest_of x (rs ++ qs) ≡ max (longest_of x rs) (longest_of x qs)
unfolding longest_of
longest_append x [] qs = omega arith
longest_append x (r ∷ rs) qs = omega (arith, longest_append x rs qs)

pub longest_more : (x : ℕ) (rs : List Record) (r : Record) → longest_of x (rs ++ (r ∷ [])) ≡ max (longest_of x rs) (when (eqb r.a x) r.b)
unfolding longest_of
longest_more x rs r = omega (arith, longest_append x rs (r ∷ []))

-- what is in none
pub count_none : (x : ℕ) (rs : List Record) (i : ℕ) → count_of x rs ≡ 0 → i < length rs → (get_or rs i nothing).a ≡ x → ⊥
unfolding count_of
count_none x [] i e l q = not-suc-le-zero l
count_none x (r ∷ rs) zero e l q = let w = eq-eqb r.a x q in let e' : 1 + count_of x rs ≡ 0 = rw w at e in omega arith
count_none x (r ∷ rs) (suc i) e l q = count_none x rs i (omega arith) (omega arith) q

pub count_zero : (x : ℕ) (rs : List Record) → ((i : ℕ) → i < length rs → (get_or rs i nothing).a ≡ x → ⊥) → count_of x rs ≡ 0
unfolding count_of
count_zero x [] h = refl
count_zero x (r ∷ rs) h = rw (ne_eqb r.a x (h 0 (omega arith))) (omega (arith, count_zero x rs (λ i l. h (suc i) (omega arith))))

-- what some have, stands somewhere
pub count_some : (x : ℕ) (rs : List Record) → 0 < count_of x rs → (i : ℕ) × (i < length rs) × ((get_or rs i nothing).a ≡ x)
unfolding count_of
count_some x [] l = absurd (not-suc-le-zero l)
count_some x (r ∷ rs) l = split (eqb r.a x) refl (count_some x rs)
  where
    split : (b : Bool) → eqb r.a x ≡ b → (0 < count_of x rs → (i : ℕ) × (i < length rs) × ((get_or rs i nothing).a ≡ x))
        → (i : ℕ) × (i < suc (length rs)) × ((get_or (r ∷ rs) i nothing).a ≡ x)
    split true q ih = (0, omega arith, eqb-true r.a x q)
    split false q ih =
        let k : 0 < 0 + count_of x rs = rw q at l in
        let w = ih (omega arith) in
        (suc w.0, omega (arith, w.1), w.2)

-- streams are numbered from 1: counted by number, a master has as many as in the list
pub counted_by_number : (k : ℕ) (rs : List Record) → upto (λ i. when (eqb (get_or rs (i - 1) nothing).a k) 1) (length rs) ≡ count_of k rs
unfolding upto count_of
counted_by_number k [] = refl
counted_by_number k (r ∷ rs) =
    upto_first (λ i. when (eqb (get_or (r ∷ rs) (i - 1) nothing).a k) 1) (length rs)
    ∙ ap (λ (n : ℕ). when (eqb r.a k) 1 + n)
    (upto_same (λ i. when (eqb (get_or (r ∷ rs) (suc i - 1) nothing).a k) 1) (λ i. when (eqb (get_or rs (i - 1) nothing).a k) 1) (length rs) next ∙ counted_by_number k rs)
  where
    next : (i : ℕ) → 1 ≤ i → i ≤ length rs → when (eqb (get_or (r ∷ rs) (suc i - 1) nothing).a k) 1 ≡ when (eqb (get_or rs (i - 1) nothing).a k) 1
    next zero lo hi = absurd (omega arith)
    next (suc i) lo hi = simp unary_clauses

-- ---- The longest, by number

-- what record i, counted from 0, has for x
abbrev figure : ℕ → List Record → ℕ → ℕ
figure x rs i = when (eqb (get_or rs i nothing).a x) (get_or rs i nothing).b

longest_most : (x : ℕ) (rs : List Record) (i : ℕ) → i < length rs → figure x rs i ≤ longest_of x rs
unfolding longest_of
longest_most x [] i l = absurd (not-suc-le-zero l)
longest_most x (r ∷ rs) zero l = omega arith
longest_most x (r ∷ rs) (suc i) l = omega (arith, longest_most x rs i (omega arith))

longest_least : (x c : ℕ) (rs : List Record) → ((i : ℕ) → i < length rs → figure x rs i ≤ c) → longest_of x rs ≤ c
unfolding longest_of
longest_least x c [] h = omega arith
longest_least x c (r ∷ rs) h = omega (arith, h 0 (omega arith), longest_least x c rs (λ i l. h (suc i) (omega arith)))

pub longest_by_number : (x : ℕ) (rs : List Record) → greatest (λ i. figure x rs (i - 1)) (length rs) ≡ longest_of x rs
longest_by_number x rs = omega (arith, most, least)
  where
    most : greatest (λ i. figure x rs (i - 1)) (length rs) ≤ longest_of x rs
    most = greatest_least (λ i. figure x rs (i - 1)) (longest_of x rs) (length rs) (λ i lo hi. longest_most x rs (i - 1) (omega arith))

    at : (i : ℕ) → i < length rs → figure x rs i ≤ greatest (λ j. figure x rs (j - 1)) (length rs)
    at i l =
        let e : i + 1 - 1 ≡ i = omega arith in
        omega (arith, ap (figure x rs) e, greatest_most (λ j. figure x rs (j - 1)) (length rs) (i + 1) (omega arith) (omega arith))

    least : longest_of x rs ≤ greatest (λ i. figure x rs (i - 1)) (length rs)
    least = longest_least x (greatest (λ i. figure x rs (i - 1)) (length rs)) rs at
