-- The number of a record's refusal, case by case. Assumes nothing.
use Rattle.std.proofs.Common.{◌≡◌, ℕ, ◌+◌, ◌*◌, ◌<◌, ◌≤◌, Bool, true, false, cond, not, ◌&&◌, eqb, ltb, List, [], ◌∷◌, length, get_or, refl, ap, ◌∙◌, subst, arith, ltb-false, le-ltb, lt-ltb}
use borrow.Author.Tests.{not-false}
use Rattle.common.specs.Checks.{check, verdict}
use Rattle.common.specs.Checks.Verdict.{Passed, Refused}
use Rattle.common.proofs.Checks.{Clear, passed_then}
use Rattle.common.proofs.Checks.Clear.{none, and}
use Rattle.sheet_record.specs.Kinds.{within}
use Rattle.capture_log.specs.declared.Event.{Event}
use Rattle.capture_log.specs.Log.{Before, left}
use Rattle.capture_log.specs.Records.{size, event_at, events_in, known, met_at, event_checks, judge}
use Rattle.capture_log.proofs.Records.{met_whole}
use Rattle.capture_tally.specs.Steps.{no_of, open_no}

-- the record at a place of the capture c, for n streams, w requests of its stream being open
module _ (c : List ℕ) (at n w : ℕ) where
  abbrev number : ℕ
  number = no_of (verdict (event_checks (length c) n w at (event_at c at)))

  pub judged_unknown : known (get_or c at 0) ≡ false → 2 ≡ number
  unfolding verdict event_checks event_at
  judged_unknown k = rw k refl

  module _ (k : known (get_or c at 0) ≡ true) where
    pub judged_cut : length c < at + size → 1 ≡ number
    unfolding verdict event_checks event_at
    judged_cut h = rw (k, lt-ltb (length c) (at + size) h) refl

    -- the code reads it as r
    module _ (h : at + size ≤ length c) (r : Event) (e : r ≡ met_at c at) where
      pub event_read : r ≡ event_at c at
      event_read = e ∙ met_whole c at h k

      pub judged_absent : within 1 r.stream n ≡ false → 14 ≡ number
      unfolding verdict event_checks event_at
      judged_absent a =
          let x : within 1 (event_at c at).stream n ≡ false = subst (λ (v : Event). within 1 v.stream n ≡ false) event_read a in
          rw (k, le-ltb (length c) (at + size) h, x) refl

      pub judged_open : within 1 r.stream n ≡ true → open_no r.kind w ≡ number
      unfolding verdict event_checks open_no event_at
      judged_open a =
          let x : within 1 (event_at c at).stream n ≡ true = subst (λ (v : Event). within 1 v.stream n ≡ true) event_read a in
          ap (λ (v : Event). open_no v.kind w) event_read
          ∙ rw (k, le-ltb (length c) (at + size) h, x) (split (eqb (get_or c at 0) 17 && eqb w 0) (eqb (get_or c at 0) 16 && not (eqb w 0)))
        where
          split : (x y : Bool) → cond x 15 (cond y 16 0) ≡ no_of (verdict (check 15 x at ∷ check 16 y at ∷ []))
          split true y = refl
          split false true = refl
          split false false = refl

-- ---- A verdict by its number

-- every line of the list has the record's place
five : (a b c d e : Bool) (at : ℕ)
    → let v = verdict (check 2 a at ∷ check 1 b at ∷ check 14 c at ∷ check 15 d at ∷ check 16 e at ∷ []) in
    (no_of v ≡ 0 → v ≡ Passed) × ((no_of v ≡ 0 → ⊥) → v ≡ Refused (no_of v) at)
unfolding verdict
five true b c d e at = (λ z. absurd (omega (arith, z)), λ z. refl)
five false true c d e at = (λ z. absurd (omega (arith, z)), λ z. refl)
five false false true d e at = (λ z. absurd (omega (arith, z)), λ z. refl)
five false false false true e at = (λ z. absurd (omega (arith, z)), λ z. refl)
five false false false false true at = (λ z. absurd (omega (arith, z)), λ z. refl)
five false false false false false at = (λ z. refl, λ z. absurd (z refl))

module _ (c : List ℕ) (n : ℕ) (b : Before) (j : ℕ) where
  abbrev here : Event
  here = event_at c (size * j)

  abbrev waiting : ℕ
  waiting = left b (events_in c j) here.stream

  by_number : (no_of (judge c n b j) ≡ 0 → judge c n b j ≡ Passed) × ((no_of (judge c n b j) ≡ 0 → ⊥) → judge c n b j ≡ Refused (no_of (judge c n b j)) (size * j))
  unfolding judge event_checks
  by_number =
      five (not (known here.kind)) (ltb (length c) (size * j + size)) (not (within 1 here.stream n))
      (eqb here.kind 17 && eqb waiting 0) (eqb here.kind 16 && not (eqb waiting 0)) (size * j)

  pub passed_by : no_of (judge c n b j) ≡ 0 → judge c n b j ≡ Passed
  passed_by = by_number.0

  pub refused_by : (no_of (judge c n b j) ≡ 0 → ⊥) → judge c n b j ≡ Refused (no_of (judge c n b j)) (size * j)
  refused_by = by_number.1

  -- what a record that passes is
  pub record Whole : Type 0 where
    pub is_known : known here.kind ≡ true
    pub ends : size * j + size ≤ length c
    pub on : within 1 here.stream n ≡ true

  pub whole_if : judge c n b j ≡ Passed → Whole
  unfolding judge event_checks
  whole_if p = tell (passed_then (event_checks (length c) n waiting (size * j) here) p)
    where
      tell : Clear (event_checks (length c) n waiting (size * j) here) → Whole
      tell (and k (and h (and s (and x (and y none))))) = record { is_known = not-false _ k; ends = ltb-false _ _ h; on = not-false _ s }
