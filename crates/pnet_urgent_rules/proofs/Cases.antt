-- The planner that sends urgent requests first: its refusals case by case, from plain facts, and from the reader's answer as the code takes it apart. Assumes nothing.
use mathlib.Core.Path.{◌≡◌, refl, sym, ap, ◌∙◌}
use mathlib.Core.Bool.{true}
use mathlib.Core.List.{List}
use Prim.Native.Nat.{ℕ, ◌≤◌, ◌<◌}
use native.Mathlib.Omega.{arith}
use borrow.Author.Tests.{lt-ltb, le-ltb, le-leb, lt-leb, eq-eqb, ne_eqb, ltb-false, eqb-true, not-false}
use lib.ListN.{length}
use lib.Dec.{ltb}
use Rattle.common.specs.Checks.{Verdict, verdict}
use Rattle.common.specs.Checks.Verdict.{Passed, Refused}
use Rattle.common.proofs.Checks.{Applies, Clear, refused_if, passed_if, passed_then}
use Rattle.common.proofs.Checks.Applies.{here, later}
use Rattle.common.proofs.Checks.Clear.{none, and}
use Rattle.sheet_record.specs.declared.Record.{Record}
use Rattle.sheet_record.specs.Kinds.{pnet, bus_of}
use Rattle.sheet_rules.specs.Sheets.{Sheet, bus_in}
use Rattle.sheet_rules.specs.Whole.{Outcome, or_else, reading}
use Rattle.sheet_read.specs.Told.{told, accepted}
use Rattle.sheet_rules.specs.Whole.Outcome.{Read, Not}
use Rattle.sheet_rules.specs.Ready.{sheet_in, Ready}
use Rattle.sheet_rules.proofs.Known.{reading_read}
use Rattle.sheet_read.proofs.Taken.{Taken, taken, not_taken, taken_ready}
use Rattle.pnet_rules.specs.Segment.{segment_of}
use Rattle.pnet_rules.specs.Limits.{Declared}
use Rattle.pnet_rules.proofs.Declares.{declared}
use Rattle.pnet_urgent_rules.specs.Planned.{first_unmet, urgent_checks, urgent_by, urgently}
use Rattle.std.specs.declared.result.Result.TheVariants.{Ok, Err}
use Rattle.common.specs.Checks.{refusal}
use Rattle.std.specs.declared.result.Result.{Result}
use Rattle.common.specs.declared.Refusal.{Refusal}
use Rattle.sheet_read.specs.declared.Accepted.{Accepted}

-- ---- What is refused

module _ (s : List ℕ) (room : ℕ) where
  pub urgently_unread : (n p : ℕ) → reading s ≡ Not n p → urgently s room ≡ Not n p
  unfolding urgently
  urgently_unread n p e = ap (λ (o : Outcome). urgent_by o room) e

  module _ (H : Sheet) (e : reading s ≡ Read H) where
    checked : urgently s room ≡ or_else (verdict (urgent_checks H room)) (Read H)
    unfolding urgently
    checked = ap (λ (o : Outcome). urgent_by o room) e

    refused : (n p : ℕ) → Applies (urgent_checks H room) n p → urgently s room ≡ Not n p
    refused n p a = checked ∙ rw (refused_if a)

    pub urgently_other : (bus_in H ≡ pnet → ⊥) → urgently s room ≡ Not 3 0
    urgently_other k = refused 3 0 (here (rw (ne_eqb (bus_in H) pnet k)))

    pub urgently_short : bus_in H ≡ pnet → (n : ℕ) → length H.streams ≡ n → room < n → urgently s room ≡ Not 13 n
    urgently_short k n q l =
        let short : ltb room (length H.streams) ≡ true = lt-ltb room (length H.streams) (omega (arith, q)) in
        rw (← q) (refused 13 (length H.streams) (later (rw (eq-eqb (bus_in H) pnet k)) (here short)))

    module _ (k : bus_in H ≡ pnet) (l : length H.streams ≤ room) where
      pub urgently_unmet : (i : ℕ) → i ≡ first_unmet (segment_of H) → i ≤ length H.streams → urgently s room ≡ Not 21 i
      urgently_unmet i q h =
          let a = refused 21 (first_unmet (segment_of H)) (later (rw (eq-eqb (bus_in H) pnet k)) (later (le-ltb room _ l) (here (le-leb _ _ (rw q at h))))) in
          rw q a

      pub urgently_read : length H.streams < first_unmet (segment_of H) → urgently s room ≡ Read H
      urgently_read h =
          let v : verdict (urgent_checks H room) ≡ Passed = passed_if (and (rw (eq-eqb (bus_in H) pnet k)) (and (le-ltb room _ l) (and (lt-leb _ _ h) none))) in
          checked ∙ rw v

-- ---- What a sheet is that is not refused

module _ (s : List ℕ) (room : ℕ) (H : Sheet) (e : urgently s room ≡ Read H) where
  -- it was read, and passes
  pub urgently_passes : (reading s ≡ Read H) × Clear (urgent_checks H room)
  unfolding urgently
  urgently_passes = by (reading s) refl e
    where
      by : (o : Outcome) → reading s ≡ o → urgent_by o room ≡ Read H → (reading s ≡ Read H) × Clear (urgent_checks H room)
      by (Not n p) q r = let z : ◌≡◌ {A = ℕ} 0 1 = cc in absurd (omega arith)
      by (Read G) q r = on (verdict (urgent_checks G room)) refl r
        where
          on : (v : Verdict) → verdict (urgent_checks G room) ≡ v → or_else v (Read G) ≡ Read H → (reading s ≡ Read H) × Clear (urgent_checks H room)
          on (Refused n p) v r' = let z : ◌≡◌ {A = ℕ} 0 1 = cc in absurd (omega arith)
          on Passed v r' = let g : G ≡ H = cc in rw (← g) (q, passed_then _ v)

  clear_room : Clear (urgent_checks H room) → (bus_in H ≡ pnet) × (length H.streams ≤ room)
  clear_room (and k (and r (and l none))) = (eqb-true _ _ (not-false _ k), ltb-false _ _ r)

  pub urgently_on_bus : bus_in H ≡ pnet
  urgently_on_bus = (clear_room urgently_passes.1).0

  pub urgently_fits : length H.streams ≤ room
  urgently_fits = (clear_room urgently_passes.1).1

  pub urgently_declared : Declared (segment_of H)
  urgently_declared = declared s H (reading_read s H urgently_passes.0) urgently_on_bus

-- ---- From the reader's answer, as the code takes it apart

module _ (s : List ℕ) {answered : Result Accepted Refusal} (e : answered ≡ told s (reading s)) where
  pub answer_taken : {head : Record} {n first : ℕ} → answered ≡ Ok (accepted head n first) → Taken s head n first
  answer_taken {head} {n} {first} q = taken s head n first (sym e ∙ q)

  pub answer_refused : {n p : ℕ} → answered ≡ Err (refusal n p) → (room : ℕ) → urgently s room ≡ Not n p
  answer_refused {n} {p} q room = urgently_unread s room n p (not_taken s n p (sym e ∙ q))

module _ {s : List ℕ} {head : Record} {n first : ℕ} (took : Taken s head n first) (room : ℕ) where
  pub taken_other : (bus_of head.kind ≡ pnet → ⊥) → urgently s room ≡ Not 3 0
  taken_other k = urgently_other s room (sheet_in s) took.reads (λ e. k (ap (λ (r : Record). bus_of r.kind) took.begins ∙ e))

  pub taken_short : bus_of head.kind ≡ pnet → room < n → urgently s room ≡ Not 13 n
  taken_short k = urgently_short s room (sheet_in s) took.reads (taken_ready took k).on_bus n took.number

-- ---- A sheet with room for its streams, whose first stream that is not accepted is found

module _ {s : List ℕ} {first n : ℕ} (ready : Ready s pnet first n) (room : ℕ) (fits : n ≤ room) (place : ℕ) (is_first : place ≡ first_unmet (segment_of (sheet_in s))) where
  few : length (sheet_in s).streams ≤ room
  few = omega (arith, ready.number)

  pub ready_unmet : place ≤ n → urgently s room ≡ Not 21 place
  ready_unmet l = urgently_unmet s room (sheet_in s) ready.reads ready.on_bus few place is_first (omega (arith, ready.number))

  pub ready_read : n < place → urgently s room ≡ Read (sheet_in s)
  ready_read l = urgently_read s room (sheet_in s) ready.reads ready.on_bus few (omega (arith, ready.number, is_first))
