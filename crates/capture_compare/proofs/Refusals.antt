-- Page 02, 'Ask 1': laying a capture beside a sheet gives a number with a place exactly if the page's words give them, and accepts both
-- exactly if they give none. Assumes nothing.
use mathlib.Core.Path.{◌≡◌, refl, sym, ap, ◌∙◌}
use mathlib.Core.Bool.{false, not}
use mathlib.Core.List.{List}
use mathlib.Core.Logic.{◌↔◌}
use Prim.Native.Nat.{ℕ, ◌≤◌, min}
use native.Mathlib.Omega.{arith}
use borrow.Author.Tests.{ltb-true, ltb-false, leb-true, leb-false, eqb-true, eqb-false, not-true, not-false}
use lib.ListN.{length}
use lib.Dec.{ltb, eqb}
use Rattle.common.specs.Checks.{Check, Verdict, verdict}
use Rattle.common.specs.Checks.Verdict.{Passed, Refused}
use Rattle.common.proofs.Checks.{Applies, Clear, refused_then}
use Rattle.common.proofs.Checks.Applies.{here, later}
use Rattle.common.proofs.Checks.Clear.{none, and}
use Rattle.sheet_record.specs.Kinds.{pnet}
use Rattle.sheet_rules.specs.Sheets.{Sheet, bus_in}
use Rattle.sheet_rules.specs.Whole.{Outcome, or_else, reading}
use Rattle.sheet_rules.specs.Whole.Outcome.{Read, Not}
use Rattle.pnet_rules.specs.Segment.{segment_of}
use Rattle.pnet_rules.specs.Bus.{OnBus}
use Rattle.pnet_plan.specs.Planned.{segment_checks, first_late}
use Rattle.pnet_plan.proofs.Refusals.{first_fails, all_pass, fails_first, pass_first}
use Rattle.capture_log.specs.Log.{fresh}
use Rattle.capture_log.specs.Records.{heard}
use Rattle.capture_log.proofs.Refusals as log
use Rattle.pnet_bounds.specs.Bounded.{bounded_by, bounded}
use Rattle.capture_compare.specs.Compared.{compared_by, compared}
use Rattle.capture_compare.specs.Refusals.{Room, Bounded, Given, Accepted}
use Rattle.capture_compare.specs.Refusals.Given.{unread, another_bus, no_room, too_late, in_capture}
use Rattle.pnet_bounds.proofs.Bounded.{bounded_unread, bounded_other, bounded_short, bounded_late, bounded_read, bounded_passes}
use Rattle.capture_compare.proofs.Beside.{compared_refused}

module _ (s c : List ℕ) (la lb lc ld : ℕ) where
  -- the shortest run is the room
  abbrev room : ℕ
  room = min la (min lb (min lc ld))

  room_then : (n : ℕ) → n ≤ room → Room la lb lc ld n
  room_then n l = record { for_answers = omega arith; for_largest = omega arith; for_above = omega arith; for_left = omega arith }

  room_if : (n : ℕ) → Room la lb lc ld n → n ≤ room
  room_if n r = omega (arith, r.for_answers, r.for_largest, r.for_above, r.for_left)

  -- ---- The sheet

  -- one that is read: the first line that applies, or none
  module _ (H : Sheet) (e : reading s ≡ Read H) where
    abbrev checks : List Check
    checks = segment_checks H (ltb room (length H.streams)) (length H.streams)

    on_bus : not (eqb (bus_in H) pnet) ≡ false → OnBus s H
    on_bus k = record { reads = e; pnet = eqb-true (bus_in H) pnet (not-false _ k) }

    line : (x p : ℕ) → Applies checks x p → Given s c la lb lc ld x p
    unfolding segment_of
    line x p (here k) = another_bus e (eqb-false (bus_in H) pnet (not-true _ k))
    line x p (later k (here r)) =
        no_room (on_bus k) (λ has. omega (arith, ltb-true room (length H.streams) r, room_if (length H.streams) has))
    line x p (later k (later r (here l))) =
        too_late (on_bus k) (room_then _ (ltb-false room (length H.streams) r)) (first_fails (segment_of H) (leb-true (first_late (segment_of H)) (length H.streams) l))
    line x p (later k (later r (later _ x21))) = elim x21 [ ]

    no_line : Clear checks → Bounded s la lb lc ld H
    unfolding segment_of
    no_line (and k (and r (and l none))) =
        record {
          on_bus = on_bus k;
          room = room_then _ (ltb-false room (length H.streams) r);
          passes = all_pass (segment_of H) (leb-false (first_late (segment_of H)) (length H.streams) l);
        }

  sheet_refused : (x p : ℕ) → bounded s room ≡ Not x p → Given s c la lb lc ld x p
  unfolding bounded
  sheet_refused x p = split (reading s) refl
    where
      of_verdict : (H : Sheet) (e : reading s ≡ Read H) (v : Verdict) → verdict (checks H e) ≡ v → or_else v (Read H) ≡ Not x p → Given s c la lb lc ld x p
      of_verdict H e Passed q r = let z : ◌≡◌ {A = ℕ} 0 1 = cc in absurd (omega arith)
      of_verdict H e (Refused m k) q r =
          let em : m ≡ x = cc in
          let ek : k ≡ p = cc in
          rw (← em, ← ek) (line H e m k (refused_then (checks H e) m k q))

      split : (o : Outcome) → reading s ≡ o → bounded_by o room ≡ Not x p → Given s c la lb lc ld x p
      split (Read H) e r = of_verdict H e (verdict (checks H e)) refl r
      split (Not m k) e r = unread (e ∙ r)

  bounded_then : (H : Sheet) → bounded s room ≡ Read H → Bounded s la lb lc ld H
  bounded_then H e = let p = bounded_passes s room H e in no_line H p.0 p.1

  bounded_if : (H : Sheet) → Bounded s la lb lc ld H → bounded s room ≡ Read H
  unfolding segment_of
  bounded_if H b =
      bounded_read s room H b.on_bus.reads b.on_bus.pnet (room_if (length H.streams) b.room) (pass_first (segment_of H) b.passes)

  -- ---- And the capture

  compared_with : (H : Sheet) → bounded s room ≡ Read H → compared s c la lb lc ld ≡ or_else (heard c (length H.streams) fresh) (Read H)
  unfolding compared
  compared_with H e = ap (λ (o : Outcome). compared_by o c) e

  given_if : (x p : ℕ) → Given s c la lb lc ld x p → compared s c la lb lc ld ≡ Not x p
  unfolding segment_of
  given_if x p (unread e) = compared_refused s c room la lb lc ld refl x p (bounded_unread s room x p e)
  given_if x p (another_bus {H} e k) = compared_refused s c room la lb lc ld refl 3 0 (bounded_other s room H e k)
  given_if x p (no_room {H} b r) =
      let n = length H.streams in
      let f : (n ≤ room → ⊥) = λ l. r (room_then n l) in
      compared_refused s c room la lb lc ld refl 13 n (bounded_short s room H b.reads b.pnet n refl (omega (arith, f)))
  given_if x p (too_late {H} b r f) =
      compared_refused s c room la lb lc ld refl 8 p
      (bounded_late s room H b.reads b.pnet (room_if (length H.streams) r) p (fails_first (segment_of H) p f) f.to)
  given_if x p (in_capture {H} b g) =
      compared_with H (bounded_if H b) ∙ ap (λ (v : Verdict). or_else v (Read H)) ((log.given_exactly c (length H.streams) x p).1 g)

  accepted_if : (H : Sheet) → Accepted s c la lb lc ld H → compared s c la lb lc ld ≡ Read H
  accepted_if H a =
      compared_with H (bounded_if H a.sheet) ∙ ap (λ (v : Verdict). or_else v (Read H)) ((log.passed_exactly c (length H.streams)).1 a.capture)

  -- what was answered, by cases on the sheet and then on the capture
  given_then : (x p : ℕ) → compared s c la lb lc ld ≡ Not x p → Given s c la lb lc ld x p
  unfolding compared
  given_then x p = split (bounded s room) refl
    where
      of_verdict : (H : Sheet) → bounded s room ≡ Read H → (v : Verdict) → heard c (length H.streams) fresh ≡ v → or_else v (Read H) ≡ Not x p
          → Given s c la lb lc ld x p
      of_verdict H e Passed q r = let z : ◌≡◌ {A = ℕ} 0 1 = cc in absurd (omega arith)
      of_verdict H e (Refused m k) q r =
          let em : m ≡ x = cc in
          let ek : k ≡ p = cc in
          rw (← em, ← ek) (in_capture (bounded_then H e) ((log.given_exactly c (length H.streams) m k).0 q))

      split : (o : Outcome) → bounded s room ≡ o → compared_by o c ≡ Not x p → Given s c la lb lc ld x p
      split (Read H) e r = of_verdict H e (heard c (length H.streams) fresh) refl r
      split (Not m k) e r = sheet_refused x p (e ∙ r)

  accepted_then : (H : Sheet) → compared s c la lb lc ld ≡ Read H → Accepted s c la lb lc ld H
  unfolding compared
  accepted_then H = split (bounded s room) refl
    where
      of_verdict : (G : Sheet) → bounded s room ≡ Read G → (v : Verdict) → heard c (length G.streams) fresh ≡ v → or_else v (Read G) ≡ Read H
          → Accepted s c la lb lc ld H
      of_verdict G e Passed q r =
          let g : G ≡ H = cc in
          rw (← g) (record { sheet = bounded_then G e; capture = (log.passed_exactly c (length G.streams)).0 q })
      of_verdict G e (Refused m k) q r = let z : ◌≡◌ {A = ℕ} 0 1 = cc in absurd (omega arith)

      split : (o : Outcome) → bounded s room ≡ o → compared_by o c ≡ Read H → Accepted s c la lb lc ld H
      split (Read G) e r = of_verdict G e (heard c (length G.streams) fresh) refl r
      split (Not m k) e r = let z : ◌≡◌ {A = ℕ} 0 1 = cc in absurd (omega arith)

  -- a number with a place exactly if the words give it
  pub given_exactly : (x p : ℕ) → (compared s c la lb lc ld ≡ Not x p) ↔ Given s c la lb lc ld x p
  given_exactly x p = (given_then x p, given_if x p)

  -- a sheet exactly if they give none
  pub accepted_exactly : (H : Sheet) → (compared s c la lb lc ld ≡ Read H) ↔ Accepted s c la lb lc ld H
  accepted_exactly H = (accepted_then H, accepted_if H)

  -- so one number and place at most is given
  pub given_once : (x p y q : ℕ) → Given s c la lb lc ld x p → Given s c la lb lc ld y q → (x ≡ y) × (p ≡ q)
  given_once x p y q g h =
      let e : Not x p ≡ Not y q = sym (given_if x p g) ∙ given_if y q h in
      (cc, cc)
