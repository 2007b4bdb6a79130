-- As far as two sheets have the same bytes, they read the same: a record that ends there is judged the same in both, and of a record whose kind byte
-- stands there the kind is. Assumes nothing.
use mathlib.Core.Path.{◌≡◌, refl, ap, ◌∙◌}
use mathlib.Core.Bool.{not}
use mathlib.Core.List.{List, [], ◌∷◌, ◌++◌}
use Prim.Native.Nat.{ℕ, zero, suc, ◌+◌, ◌≤◌, ◌<◌}
use native.Mathlib.Omega.{arith}
use borrow.Author.Tests.{le-ltb}
use lib.ListN.{length, get_or}
use Rattle.common.specs.Checks.{verdict}
use Rattle.common.specs.Checks.Verdict.{Refused}
use Rattle.common.proofs.Checks.{Applies, refused_if, refused_then}
use Rattle.common.proofs.Checks.Applies.{here, later}
use Rattle.sheet_record.specs.declared.Record.{Record}
use Rattle.sheet_record.specs.Kinds.{known, size_of, decode}
use Rattle.sheet_write.proofs.Trips.{decode_same}
use Rattle.sheet_rules.specs.Sheets.{Sheet, sheet_of, fits}
use Rattle.sheet_rules.specs.Whole.{place_of, records_of, before, record_checks, judge, reading}
use Rattle.sheet_rules.specs.Whole.Outcome.{Not}
use Rattle.sheet_rules.proofs.Walk.{place_next, place_order}
use Rattle.sheet_rules.proofs.Cases.{Upto, passes_if, passes_then, stops_once}
use Rattle.sheet_rules.proofs.Cases.Stops.{by_record}
use Rattle.sheet_record.proofs.Tables.{size_some}

-- ---- The refusals of one record

-- of the sheet, a record's refusals ask only whether it holds the record
checks_same : (s t : List ℕ) (S : Sheet) (at : ℕ) (r : Record) → at + size_of r.kind ≤ length s → at + size_of r.kind ≤ length t
    → record_checks s S at r ≡ record_checks t S at r
unfolding record_checks
checks_same s t S at r l k = rw (le-ltb (length s) (at + size_of r.kind) l, le-ltb (length t) (at + size_of r.kind) k)

checks_at : (t : List ℕ) {S S' : Sheet} {p p' : ℕ} {r r' : Record} → S ≡ S' → p ≡ p' → r ≡ r' → verdict (record_checks t S p r) ≡ verdict (record_checks t S' p' r')
checks_at t e k q = cc

-- 2 and 3 ask only for its kind
module _ (s t : List ℕ) (S : Sheet) (at : ℕ) (r q : Record) (k : q.kind ≡ r.kind) where
  kind_applies : {m p : ℕ} → 2 ≤ m → m ≤ 3 → Applies (record_checks s S at r) m p → Applies (record_checks t S at q) m p
  unfolding record_checks
  kind_applies lo hi (here e₂) = here (ap (λ (x : ℕ). not (known x)) k ∙ e₂)
  kind_applies lo hi (later e₂ (here e₃)) = later (ap (λ (x : ℕ). not (known x)) k ∙ e₂) (here (ap (λ (x : ℕ). not (fits S x)) k ∙ e₃))
  kind_applies lo hi (later e₂ (later e₃ (here e₁))) = absurd (omega arith)
  kind_applies lo hi (later e₂ (later e₃ (later e₁ (here e₄)))) = absurd (omega arith)
  kind_applies lo hi (later e₂ (later e₃ (later e₁ (later e₄ (here e₂₀))))) = absurd (omega arith)
  kind_applies lo hi (later e₂ (later e₃ (later e₁ (later e₄ (later e₂₀ (here e₅)))))) = absurd (omega arith)
  kind_applies lo hi (later e₂ (later e₃ (later e₁ (later e₄ (later e₂₀ (later e₅ (here e₇))))))) = absurd (omega arith)
  kind_applies {m = m} {p = p} lo hi (later e₂ (later e₃ (later e₁ (later e₄ (later e₂₀ (later e₅ (later _ x40))))))) = elim x40 [ ]

-- ---- Two sheets

-- t has the first n bytes of s
pub record SameFront (s t : List ℕ) (n : ℕ) : Type 0 where
  pub s_long : n ≤ length s
  pub t_long : n ≤ length t
  pub same : (i : ℕ) → i < n → get_or t i 0 ≡ get_or s i 0

module _ {s t : List ℕ} {n : ℕ} (front : SameFront s t n) where
  -- records that end within the front stand at the same places
  place_there : (i : ℕ) → place_of s i ≤ n → place_of t i ≡ place_of s i
  unfolding place_of
  place_there zero l = refl
  place_there (suc i) l =
      let k = size_some (get_or s (place_of s i) 0) in
      next (place_there i (omega arith)) (front.same (place_of s i) (omega arith))
    where
      next : {p : ℕ} → p ≡ place_of s i → get_or t (place_of s i) 0 ≡ get_or s (place_of s i) 0 → p + size_of (get_or t p 0) ≡ place_of s i + size_of (get_or s (place_of s i) 0)
      next e k = rw (e, k)

  decode_there : (i : ℕ) → place_of s (suc i) ≤ n → decode t (place_of t i) ≡ decode s (place_of s i)
  unfolding place_of
  decode_there i l =
      ap (decode t) (place_there i (omega arith))
      ∙ decode_same t s (place_of s i) (λ j lo hi. front.same j (omega arith))

  records_there : (i : ℕ) → place_of s i ≤ n → records_of t i ≡ records_of s i
  unfolding records_of
  records_there zero l = refl
  records_there (suc i) l = next (records_there i (omega (arith, place_next s i))) (decode_there i l)
    where
      next : {rs : List Record} {r : Record} → rs ≡ records_of s i → r ≡ decode s (place_of s i) → rs ++ (r ∷ []) ≡ records_of s i ++ (decode s (place_of s i) ∷ [])
      next e k = rw (e, k)

  checks_there : (i : ℕ) → place_of s (suc i) ≤ n → record_checks t (before s i) (place_of s i) (decode s (place_of s i)) ≡ record_checks s (before s i) (place_of s i) (decode s (place_of s i))
  unfolding decode place_of
  checks_there i l = checks_same t s (before s i) (place_of s i) (decode s (place_of s i)) (omega (arith, front.t_long)) (omega (arith, front.s_long))

  judge_there : (i : ℕ) → place_of s (suc i) ≤ n → judge t i ≡ judge s i
  unfolding judge before
  judge_there i l =
      let h : place_of s i ≤ n = omega (arith, place_next s i) in
      checks_at t (ap sheet_of (records_there i h)) (place_there i h) (decode_there i l) ∙ ap verdict (checks_there i l)

  -- reading goes as far in t
  upto_there : (i : ℕ) → place_of s i ≤ n → Upto s i → Upto t i
  upto_there i l u =
      record {
        inside = λ j h. omega (arith, ends j h, place_next s j, place_there j (omega (arith, ends j h, place_next s j)), front.t_long);
        passed = λ j h. passes_then t j (judge_there j (ends j h) ∙ passes_if s j (u.passed j h));
      }
    where
      ends : (j : ℕ) → j < i → place_of s (suc j) ≤ n
      ends j h = omega (arith, place_order s (suc j) i h)

  -- so t is refused at record i as s is, if it is there
  refused_there : (i m p : ℕ) → Upto s i → place_of s i < n → judge t i ≡ Refused m p → reading t ≡ Not m p
  refused_there i m p u l e =
      stops_once t (by_record i m p (upto_there i (omega arith) u) (omega (arith, place_there i (omega arith), front.t_long)) e refl)

  -- by the whole record, whatever the number
  pub refused_by_record : (i m p : ℕ) → Upto s i → judge s i ≡ Refused m p → place_of s (suc i) ≤ n → reading t ≡ Not m p
  refused_by_record i m p u e l = refused_there i m p u (omega (arith, place_next s i)) (judge_there i l ∙ e)

  -- by its kind byte alone, with 2 or 3
  pub refused_by_kind : (i m p : ℕ) → Upto s i → judge s i ≡ Refused m p → 2 ≤ m → m ≤ 3 → place_of s i < n → reading t ≡ Not m p
  unfolding judge before decode
  refused_by_kind i m p u e lo hi l =
      let h : place_of s i ≤ n = omega arith in
      let k : get_or t (place_of t i) 0 ≡ get_or s (place_of s i) 0 = ap (λ (x : ℕ). get_or t x 0) (place_there i h) ∙ front.same (place_of s i) l in
      let a = kind_applies s t (before s i) (place_of s i) (decode s (place_of s i)) (decode t (place_of t i)) k lo hi (refused_then _ m p e) in
      refused_there i m p u l (checks_at t {r = decode t (place_of t i)} (ap sheet_of (records_there i h)) (place_there i h) refl ∙ refused_if a)
