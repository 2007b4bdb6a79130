-- The refusal of a stream by those before it, a law for each answer, and of an identifier that was met before. Assumes nothing.
use mathlib.Core.Path.{◌≡◌, refl, sym, ap, ◌∙◌}
use mathlib.Core.Bool.{Bool, true, false, ◌||◌, or-true}
use mathlib.Core.List.{List}
use Prim.Native.Nat.{ℕ, zero, suc, ◌+◌, ◌≤◌, ◌<◌}
use native.Mathlib.Nat.{not-suc-le-zero}
use native.Mathlib.Numerals.{add-one}
use native.Mathlib.Omega.{arith}
use native.Mathlib.Decide.{ℕ_discrete}
use borrow.Author.Tests.{eqb-true, ne_eqb, eq-eqb, le-leb, lt-leb, leb-true, leb-false}
use lib.ListN.{get_or}
use lib.Dec.{eqb, leb}
use Rattle.sheet_record.specs.declared.Record.{Record}
use Rattle.sheet_keep.specs.Steps.{among, late_no}

-- ---- Identifiers met before

-- one identifier more
pub among_more : (x i : ℕ) (ids : List ℕ) → among x (i + 1) ids ≡ (among x i ids || eqb (get_or ids i 0) x)
unfolding among
among_more x i ids = rw add-one refl

-- one of them is x
pub among_yes : (x i n : ℕ) (ids : List ℕ) → i < n → get_or ids i 0 ≡ x → among x n ids ≡ true
unfolding among
among_yes x i zero ids l e = absurd (not-suc-le-zero l)
among_yes x i (suc n) ids l e = split (ℕ_discrete i n) (among_yes x i n ids)
  where
    split : Dec (i ≡ n) → (i < n → get_or ids i 0 ≡ x → among x n ids ≡ true) → (among x n ids || eqb (get_or ids n 0) x) ≡ true
    split (yes q) ih = rw (eq-eqb (get_or ids n 0) x (ap (λ (k : ℕ). get_or ids k 0) (sym q) ∙ e)) (or-true (among x n ids))
    split (no q) ih = rw (ih (omega (arith, q)) e)

pub among_then : (x n : ℕ) (ids : List ℕ) → among x n ids ≡ true → (i : ℕ) × (i < n) × (get_or ids i 0 ≡ x)
unfolding among
among_then x zero ids e = let z : ◌≡◌ {A = ℕ} 0 1 = cc in absurd (omega arith)
among_then x (suc n) ids e = split (among x n ids) refl (among_then x n ids)
  where
    split : (b : Bool) → among x n ids ≡ b → (among x n ids ≡ true → (i : ℕ) × (i < n) × (get_or ids i 0 ≡ x)) → (i : ℕ) × (i < suc n) × (get_or ids i 0 ≡ x)
    split true q ih = let r = ih q in (r.0, omega (arith, r.1), r.2)
    split false q ih = (n, omega arith, eqb-true (get_or ids n 0) x (rw q at e))

-- ---- The refusal of a stream by those before it

module _ (counts ids : List ℕ) (n : ℕ) (r : Record) where
  module _ (e : r.kind ≡ 6) where
    pub late_variables : 64 ≤ n → 5 ≡ late_no counts ids n r
    unfolding late_no
    late_variables l = rw (e, le-leb 64 n l)

    pub late_met : n < 64 → among r.a n ids ≡ true → 7 ≡ late_no counts ids n r
    unfolding late_no
    late_met l q = rw (e, lt-leb 64 n l, q)

    pub late_new : n < 64 → among r.a n ids ≡ false → 0 ≡ late_no counts ids n r
    unfolding late_no
    late_new l q = rw (e, lt-leb 64 n l, q)

    pub not_late_variable : late_no counts ids n r ≡ 0 → n < 64
    not_late_variable z = split (leb 64 n) refl
      where
        split : (b : Bool) → leb 64 n ≡ b → n < 64
        split true q = absurd (omega (arith, late_variables (leb-true 64 n q)))
        split false q = leb-false 64 n q

  module _ (e : r.kind ≡ 6 → ⊥) where
    pub late_streams : 800 ≤ n → 5 ≡ late_no counts ids n r
    unfolding late_no
    late_streams l = rw (ne_eqb r.kind 6 e, le-leb 800 n l)

    pub late_master : n < 800 → 80 ≤ get_or counts r.a 0 → 5 ≡ late_no counts ids n r
    unfolding late_no
    late_master l q = rw (ne_eqb r.kind 6 e, lt-leb 800 n l, le-leb 80 (get_or counts r.a 0) q)

    pub late_none : n < 800 → get_or counts r.a 0 < 80 → 0 ≡ late_no counts ids n r
    unfolding late_no
    late_none l q = rw (ne_eqb r.kind 6 e, lt-leb 800 n l, lt-leb 80 (get_or counts r.a 0) q)

    pub not_late_stream : late_no counts ids n r ≡ 0 → get_or counts r.a 0 < 80
    not_late_stream z = many (leb 800 n) refl
      where
        split : (b : Bool) → leb 80 (get_or counts r.a 0) ≡ b → n < 800 → get_or counts r.a 0 < 80
        split true q l = absurd (omega (arith, late_master l (leb-true 80 (get_or counts r.a 0) q)))
        split false q l = leb-false 80 (get_or counts r.a 0) q

        many : (b : Bool) → leb 800 n ≡ b → get_or counts r.a 0 < 80
        many true q = absurd (omega (arith, late_streams (leb-true 800 n q)))
        many false q = split (leb 80 (get_or counts r.a 0)) refl (leb-false 800 n q)
