-- Page 01, 'Numbered refusals': what it means that a record passes, and where a reading stops. Assumes nothing.
use mathlib.Core.Path.{◌≡◌, refl, sym, ap, ◌∙◌, subst}
use mathlib.Core.Bool.{Bool, true, false, cond, not, ◌&&◌, ◌||◌}
use mathlib.Core.List.{List}
use Prim.Native.Nat.{ℕ, zero, suc, ◌+◌, ◌-◌, ◌≤◌, ◌<◌, zero-le}
use native.Mathlib.Nat.{not-suc-le-zero}
use native.Mathlib.Omega.{arith}
use native.Mathlib.Decide.{ℕ_discrete}
use borrow.Author.Tests.{ltb-true, ltb-false, lt-ltb, le-ltb, ne_eqb, not-false}
use lib.ListN.{length}
use lib.Dec.{ltb}
use Rattle.common.specs.Checks.{Verdict, verdict}
use Rattle.common.specs.Checks.Verdict.{Passed, Refused}
use Rattle.common.proofs.Checks.{Clear, passed_if, passed_then}
use Rattle.common.proofs.Checks.Clear.{none, and}
use Rattle.sheet_record.specs.declared.Record.{Record}
use Rattle.sheet_record.specs.Kinds.{known, is_stream, size_of, decode, in_range}
use Rattle.sheet_rules.specs.Sheets.{Sheet, given, sheet_of, fits, lacking, repeated, over_limit, met_before}
use Rattle.sheet_rules.specs.Whole.{place_of, before, record_checks, end_checks, judge, ended, read_from, reading, Outcome, or_else}
use Rattle.sheet_rules.specs.Whole.Outcome.{Read, Not}
use Rattle.sheet_rules.proofs.Walk.{place_next, place_from}

-- ---- A record

-- a record at a place of the sheet s passes behind S: no refusal of a record applies
pub record Passes (s : List ℕ) (S : Sheet) (at : ℕ) (r : Record) : Type 0 where
  pub is_known : known r.kind ≡ true
  pub is_right : fits S r.kind ≡ true
  pub is_whole : at + size_of r.kind ≤ length s
  pub is_ranged : in_range (given S r.a) r ≡ true
  pub first_of_master : repeated S r ≡ false
  pub none_missing : is_stream r.kind ≡ true → lacking S ≡ false
  pub in_limits : over_limit S.streams r ≡ false
  pub is_new : met_before S.streams r ≡ false

-- 20 is two tests: neither holds
pub neither : (again stream lacks : Bool) → (again || (stream && lacks)) ≡ false → (again ≡ false) × (stream ≡ true → lacks ≡ false)
neither true stream lacks e = let z : ◌≡◌ {A = ℕ} 0 1 = cc in absurd (omega arith)
neither false true lacks e = (refl, λ q. e)
neither false false lacks e = (refl, λ q. let z : ◌≡◌ {A = ℕ} 0 1 = cc in absurd (omega arith))

pub none_of_both : (again stream lacks : Bool) → again ≡ false → (stream ≡ true → lacks ≡ false) → (again || (stream && lacks)) ≡ false
none_of_both again true lacks e f = rw (e, f refl)
none_of_both again false lacks e f = rw e

clear_then : {s : List ℕ} {S : Sheet} {at : ℕ} {r : Record} → Clear (record_checks s S at r) → Passes s S at r
unfolding record_checks
clear_then {s} {S} {at} {r} (and e₂ (and e₃ (and e₁ (and e₄ (and e₂₀ (and e₅ (and e₇ none))))))) =
    record {
      is_known = not-false _ e₂;
      is_right = not-false _ e₃;
      is_whole = ltb-false _ _ e₁;
      is_ranged = not-false _ e₄;
      first_of_master = (neither (repeated S r) (is_stream r.kind) (lacking S) e₂₀).0;
      none_missing = (neither (repeated S r) (is_stream r.kind) (lacking S) e₂₀).1;
      in_limits = e₅;
      is_new = e₇;
    }

clear_if : {s : List ℕ} {S : Sheet} {at : ℕ} {r : Record} → Passes s S at r → Clear (record_checks s S at r)
unfolding record_checks
clear_if {s} {S} {at} {r} p =
    and (ap not p.is_known) (and (ap not p.is_right) (and (le-ltb _ _ p.is_whole) (and (ap not p.is_ranged)
    (and (none_of_both (repeated S r) (is_stream r.kind) (lacking S) p.first_of_master p.none_missing) (and p.in_limits (and p.is_new none))))))

module _ (s : List ℕ) where
  -- record i of the sheet passes
  abbrev pub PassesAt : ℕ → Type 0
  PassesAt i = Passes s (before s i) (place_of s i) (decode s (place_of s i))

  pub passes_then : (i : ℕ) → judge s i ≡ Passed → PassesAt i
  unfolding judge
  passes_then i e = clear_then (passed_then _ e)

  pub passes_if : (i : ℕ) → PassesAt i → judge s i ≡ Passed
  unfolding judge
  passes_if i p = passed_if (clear_if p)

  -- the next record stands within the sheet, or just at its end
  pub passes_next : (i : ℕ) → PassesAt i → place_of s (suc i) ≤ length s
  unfolding place_of decode
  passes_next i p = p.is_whole

  -- ---- The whole reading

  -- the records before record i stand within the sheet, and pass
  pub record Upto (i : ℕ) : Type 0 where
    pub inside : (j : ℕ) → j < i → place_of s j < length s
    pub passed : (j : ℕ) → j < i → PassesAt j

  pub upto_none : Upto 0
  upto_none = record { inside = λ j h. absurd (not-suc-le-zero h); passed = λ j h. absurd (not-suc-le-zero h) }

  pub upto_front : (i j : ℕ) → j ≤ i → Upto i → Upto j
  upto_front i j l u = record { inside = λ k h. u.inside k (omega arith); passed = λ k h. u.passed k (omega arith) }

  pub upto_more : (i : ℕ) → Upto i → place_of s i < length s → PassesAt i → Upto (suc i)
  upto_more i u h p =
      record {
        inside = λ j l. split (λ (k : ℕ). place_of s k < length s) j l u.inside h;
        passed = λ j l. split (λ (k : ℕ). PassesAt k) j l u.passed p;
      }
    where
      split : (P : ℕ → Type 0) (j : ℕ) → j < suc i → ((k : ℕ) → k < i → P k) → P i → P j
      split P j l below here' = last (ℕ_discrete j i)
        where
          last : Dec (j ≡ i) → P j
          last (yes e) = subst P (sym e) here'
          last (no e) = below j (omega (arith, e))

  -- a reading stops where a record is refused, or where the sheet ends
  pub data Stops (o : Outcome) : Type 0 where
    by_record : (i n p : ℕ) → Upto i → place_of s i < length s → judge s i ≡ Refused n p → o ≡ Not n p → Stops o
    at_end : (i : ℕ) → Upto i → place_of s i ≡ length s → o ≡ ended s i → Stops o

  -- places do not pass the end
  pub upto_place : (i : ℕ) → Upto i → place_of s i ≤ length s
  unfolding place_of
  upto_place zero u = zero-le
  upto_place (suc i) u = passes_next i (u.passed i (omega arith))

  -- m more records are enough
  stops_from : (m i : ℕ) → Upto i → length s ≤ m + place_of s i → Stops (read_from s m i)
  unfolding read_from
  stops_from zero i u h = at_end i u (omega (arith, upto_place i u)) refl
  stops_from (suc m) i u h = split (ltb (place_of s i) (length s)) refl (stops_from m (suc i))
    where
      judged : (v : Verdict) → judge s i ≡ v → place_of s i < length s → (Upto (suc i) → length s ≤ m + place_of s (suc i) → Stops (read_from s m (suc i)))
          → Stops (or_else v (read_from s m (suc i)))
      judged Passed e l ih = ih (upto_more i u l (passes_then i e)) (omega (arith, place_next s i))
      judged (Refused n p) e l ih = by_record i n p u l e refl

      split : (b : Bool) → ltb (place_of s i) (length s) ≡ b → (Upto (suc i) → length s ≤ m + place_of s (suc i) → Stops (read_from s m (suc i)))
          → Stops (cond b (or_else (judge s i) (read_from s m (suc i))) (ended s i))
      split true e ih = judged (judge s i) refl (ltb-true _ _ e) ih
      split false e ih = at_end i u (omega (arith, upto_place i u, ltb-false (place_of s i) (length s) e)) refl

  pub reading_stops : Stops (reading s)
  unfolding reading place_of
  reading_stops = stops_from (length s) 0 upto_none (omega arith)

  -- behind records that pass, reading goes on
  read_next : (m i : ℕ) → place_of s i < length s → judge s i ≡ Passed → read_from s (suc m) i ≡ read_from s m (suc i)
  unfolding read_from
  read_next m i l e = rw (lt-ltb (place_of s i) (length s) l, e)

  reads_on : (i : ℕ) → Upto i → reading s ≡ read_from s (length s - i) i
  unfolding reading
  reads_on zero u = let q : length s ≡ length s - 0 = omega arith in ap (λ (m : ℕ). read_from s m 0) q
  reads_on (suc i) u =
      let l = u.inside i (omega arith) in
      let q : length s - i ≡ suc (length s - suc i) = omega (arith, place_from s i) in
      reads_on i (upto_front (suc i) i (omega arith) u) ∙ ap (λ (m : ℕ). read_from s m i) q ∙ read_next (length s - suc i) i l (passes_if i (u.passed i (omega arith)))

  read_refused : (m i n p : ℕ) → place_of s i < length s → judge s i ≡ Refused n p → read_from s (suc m) i ≡ Not n p
  unfolding read_from
  read_refused m i n p l e = rw (lt-ltb (place_of s i) (length s) l, e)

  read_ended : (m i : ℕ) → length s ≤ place_of s i → read_from s m i ≡ ended s i
  unfolding read_from
  read_ended zero i l = refl
  read_ended (suc m) i l = rw (le-ltb (place_of s i) (length s) l)

  -- and it can stop in one way only
  pub stops_once : {o : Outcome} → Stops o → reading s ≡ o
  stops_once (by_record i n p u l e q) =
      let q' : length s - i ≡ suc (length s - suc i) = omega (arith, place_from s i) in
      reads_on i u ∙ ap (λ (m : ℕ). read_from s m i) q' ∙ read_refused (length s - suc i) i n p l e ∙ sym q
  stops_once (at_end i u l q) = reads_on i u ∙ read_ended (length s - i) i (omega arith) ∙ sym q

  -- ---- The end

  pub ended_empty : ended s 0 ≡ Not 1 0
  unfolding ended end_checks verdict before sheet_of
  ended_empty = refl

  module _ (i : ℕ) (first : (before s i).head.kind ≡ 0 → ⊥) where
    pub ended_no_message : lacking (before s i) ≡ true → ended s i ≡ Not 20 (length s)
    unfolding ended end_checks verdict
    ended_no_message l = rw (ne_eqb (before s i).head.kind 0 first, l)

    pub ended_no_stream : lacking (before s i) ≡ false → length (before s i).streams ≡ 0 → ended s i ≡ Not 6 (length s)
    unfolding ended end_checks verdict
    ended_no_stream l e = rw (ne_eqb (before s i).head.kind 0 first, l, e)

    pub ended_sheet : lacking (before s i) ≡ false → (length (before s i).streams ≡ 0 → ⊥) → ended s i ≡ Read (before s i)
    unfolding ended end_checks verdict
    ended_sheet l h = rw (ne_eqb (before s i).head.kind 0 first, l, ne_eqb (length (before s i).streams) 0 h)
