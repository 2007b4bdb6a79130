-- Page 02, Ask 8: the longest messages of a ring's masters, as a list of records. Assumes nothing.
use mathlib.Core.Path.{◌≡◌, refl, sym, ap, ◌∙◌}
use mathlib.Core.Bool.{Bool, true, false, ◌||◌}
use mathlib.Core.List.{List, [], ◌∷◌}
use Prim.Native.Nat.{ℕ, zero, suc, ◌+◌, ◌≤◌, ◌<◌, max}
use native.Mathlib.Omega.{arith}
use native.Mathlib.Decide.{ℕ_discrete}
use borrow.Author.Tests.{eqb-true, eqb-false, eq-eqb, ne_eqb}
use lib.ListN.{length, get_or}
use lib.Dec.{eqb}
use Rattle.common.specs.Sums.{when, upto}
use Rattle.common.proofs.Sums.{upto_same, upto_add, upto_even, upto_most, upto_only}
use Rattle.sheet_record.specs.declared.Record.{Record}
use Rattle.sheet_record.specs.Kinds.{nothing}
use Rattle.sheet_messages.specs.Messages.{message_by}
use Rattle.sheet_rules.specs.Sheets.{count_of, longest_of, lacks_of}

-- ---- One is missing, or none

-- none is: each of masters 1..n has one
pub lacks_none : (n : ℕ) (rs : List Record) → lacks_of n rs ≡ false → (y : ℕ) → 1 ≤ y → y ≤ n → 1 ≤ count_of y rs
unfolding lacks_of
lacks_none zero rs e y lo hi = absurd (omega arith)
lacks_none (suc n) rs e y lo hi = split (lacks_of n rs) refl e (λ q. lacks_none n rs q y lo)
  where
    last : eqb (count_of (suc n) rs) 0 ≡ false → (y ≤ n → 1 ≤ count_of y rs) → Dec (y ≡ suc n) → 1 ≤ count_of y rs
    last f ih (yes z) = let c : count_of y rs ≡ count_of (suc n) rs = ap (λ (x : ℕ). count_of x rs) z in omega (arith, eqb-false (count_of (suc n) rs) 0 f)
    last f ih (no z) = ih (omega (arith, z))

    split : (b : Bool) → lacks_of n rs ≡ b → (b || eqb (count_of (suc n) rs) 0) ≡ false → (lacks_of n rs ≡ false → y ≤ n → 1 ≤ count_of y rs) → 1 ≤ count_of y rs
    split true q f ih = let z : ◌≡◌ {A = ℕ} 0 1 = cc in absurd (omega arith)
    split false q f ih = last f (ih q) (ℕ_discrete y (suc n))

-- one is: a master of 1..n that has none
pub lacks_some : (n : ℕ) (rs : List Record) → lacks_of n rs ≡ true → (y : ℕ) × (1 ≤ y) × (y ≤ n) × (count_of y rs ≡ 0)
unfolding lacks_of
lacks_some zero rs e = let z : ◌≡◌ {A = ℕ} 0 1 = cc in absurd (omega arith)
lacks_some (suc n) rs e = split (lacks_of n rs) refl e (lacks_some n rs)
  where
    split : (b : Bool) → lacks_of n rs ≡ b → (b || eqb (count_of (suc n) rs) 0) ≡ true → (lacks_of n rs ≡ true → (y : ℕ) × (1 ≤ y) × (y ≤ n) × (count_of y rs ≡ 0))
        → (y : ℕ) × (1 ≤ y) × (y ≤ suc n) × (count_of y rs ≡ 0)
    split true q f ih = let w = ih q in (w.0, w.1, omega (arith, w.2), w.3)
    split false q f ih = (suc n, omega arith, omega arith, eqb-true (count_of (suc n) rs) 0 f)

-- ---- How many there are

-- those of masters 1..n, counted master by master, are all
count_all : (n : ℕ) (rs : List Record) → ((i : ℕ) → i < length rs → (1 ≤ (get_or rs i nothing).a) × ((get_or rs i nothing).a ≤ n)) → upto (λ y. count_of y rs) n ≡ length rs
unfolding count_of
count_all n [] h = upto_even 0 n ∙ omega arith
count_all n (r ∷ rs) h =
    let a = h 0 (omega arith) in
    let own : upto (λ y. when (eqb r.a y) 1) n ≡ 1 = upto_same (λ y. when (eqb r.a y) 1) (λ y. when (eqb y r.a) 1) n (λ y lo hi. turned y) ∙ upto_only 1 r.a n a.0 a.1 in
    let sum = upto_add (λ y. when (eqb r.a y) 1) (λ y. count_of y rs) n in
    omega (arith, sum, own, count_all n rs (λ i l. h (suc i) (omega arith)))
  where
    turned : (y : ℕ) → when (eqb r.a y) 1 ≡ when (eqb y r.a) 1
    turned y = split (ℕ_discrete r.a y)
      where
        split : Dec (r.a ≡ y) → when (eqb r.a y) 1 ≡ when (eqb y r.a) 1
        split (yes e) = rw (eq-eqb r.a y e, eq-eqb y r.a (sym e))
        split (no e) = rw (ne_eqb r.a y e, ne_eqb y r.a (λ q. e (sym q)))

-- so there are n at most, where no master has two
pub few_once : (n : ℕ) (rs : List Record) → ((i : ℕ) → i < length rs → (1 ≤ (get_or rs i nothing).a) × ((get_or rs i nothing).a ≤ n)) → ((y : ℕ) → count_of y rs ≤ 1)
    → length rs ≤ n
few_once n rs h once = omega (arith, count_all n rs h, upto_most (λ y. count_of y rs) 1 n (λ y lo hi. once y))

-- ---- How long they are

-- each is in its range
abbrev pub Short : List Record → Type 0
Short rs = (i : ℕ) → i < length rs → (1 ≤ (get_or rs i nothing).b) × ((get_or rs i nothing).b ≤ 100000)

pub longest_short : (y : ℕ) (rs : List Record) → Short rs → longest_of y rs ≤ 100000
unfolding longest_of
longest_short y [] h = omega arith
longest_short y (r ∷ rs) h = omega (arith, own (eqb r.a y), longest_short y rs (λ i l. h (suc i) (omega arith)))
  where
    own : (b : Bool) → when b r.b ≤ 100000
    own true = (h 0 (omega arith)).1
    own false = omega arith

-- a master that has one
pub longest_some : (y : ℕ) (rs : List Record) → Short rs → 1 ≤ count_of y rs → 1 ≤ longest_of y rs
unfolding longest_of count_of
longest_some y [] h l = absurd (omega arith)
longest_some y (r ∷ rs) h l = own (eqb r.a y) refl (longest_some y rs (λ i m. h (suc i) (omega arith)))
  where
    own : (b : Bool) → eqb r.a y ≡ b → (1 ≤ count_of y rs → 1 ≤ longest_of y rs) → 1 ≤ max (when b r.b) (longest_of y rs)
    own true e ih = omega (arith, (h 0 (omega arith)).0)
    own false e ih =
        let k : 1 ≤ 0 + count_of y rs = rw e at l in
        omega (arith, ih (omega arith))

-- what counts for a master is 1..100,000
pub message_in_range : (m : ℕ) → m ≤ 100000 → (1 ≤ message_by m) × (message_by m ≤ 100000)
unfolding message_by
message_in_range zero l = (omega arith, omega arith)
message_in_range (suc m) l = (omega arith, l)
