-- Page 02, 'Ask 11', refusals: the planner that sends urgent requests first gives a number with a place exactly if the page gives it, and accepts a sheet exactly if the page gives none.
-- Assumes nothing.
use mathlib.Core.Path.{◌≡◌, refl, sym, ◌∙◌}
use mathlib.Core.Bool.{true, false, not, true≢false}
use mathlib.Core.List.{List}
use mathlib.Core.Logic.{◌↔◌}
use Prim.Native.Nat.{ℕ, ◌≤◌, ◌<◌}
use native.Mathlib.Omega.{arith}
use borrow.Author.Tests.{ltb-true, ltb-false, leb-true, leb-false, eqb-true, eqb-false, not-true, not-false}
use lib.ListN.{length}
use lib.Dec.{eqb}
use Rattle.common.specs.Checks.{verdict, Verdict}
use Rattle.common.specs.Checks.Verdict.{Passed, Refused}
use Rattle.common.proofs.Checks.{Applies, Clear, refused_then, passed_then}
use Rattle.common.proofs.Checks.Applies.{here, later}
use Rattle.common.proofs.Checks.Clear.{none, and}
use Rattle.common.proofs.Firsts.{First, first_is}
use Rattle.sheet_record.specs.Kinds.{pnet}
use Rattle.sheet_rules.specs.Sheets.{Sheet, bus_in}
use Rattle.sheet_rules.specs.Whole.{Outcome, or_else, reading}
use Rattle.sheet_rules.specs.Whole.Outcome.{Read, Not}
use Rattle.sheet_rules.proofs.Known.{reading_read}
use Rattle.pnet_rules.specs.Segment.{Segment, segment_of, turn}
use Rattle.pnet_rules.specs.Bus.{OnBus}
use Rattle.pnet_rules.proofs.Declares.{declared}
use Rattle.pnet_urgent_rules.specs.Urgent.{unmet}
use Rattle.pnet_urgent_rules.specs.Planned.{first_unmet, urgent_checks, urgent_by, urgently}
use Rattle.pnet_urgent_rules.specs.Refusals.{Met, FirstUnmet, Given, Accepted}
use Rattle.pnet_urgent_rules.specs.Refusals.Given.{unread, another_bus, no_room, not_met}
use Rattle.pnet_urgent_rules.proofs.Right.{turn_some}
use Rattle.pnet_urgent_rules.proofs.Figures.{met_if, met_then}
use Rattle.pnet_urgent_rules.proofs.Cases.{urgently_unread, urgently_other, urgently_short, urgently_unmet, urgently_read}

-- ---- The first stream that is not accepted

module _ (S : Segment) (some : 1 ≤ turn S) where
  not_met_then : (i : ℕ) → unmet S i ≡ true → Met S i → ⊥
  not_met_then i e m = true≢false (sym e ∙ met_if S i some m)

  first : First (unmet S) S.number 1 (first_unmet S)
  unfolding first_unmet
  first = first_is (unmet S) S.number 1

  pub first_unmet_law : first_unmet S ≤ S.number → FirstUnmet S (first_unmet S)
  first_unmet_law l =
      record {
        from = first.from;
        to = l;
        unmet = not_met_then (first_unmet S) (first.holds (omega arith));
        before = λ j lo hi. met_then S j some (first.fails j lo hi);
      }

  pub all_met : S.number < first_unmet S → (i : ℕ) → 1 ≤ i → i ≤ S.number → Met S i
  all_met l i lo hi = met_then S i some (first.fails i lo (omega arith))

  -- and no other number is the first
  pub unmet_first : (i : ℕ) → FirstUnmet S i → i ≡ first_unmet S
  unmet_first i f =
      let a : (i < first_unmet S → ⊥) = λ l. f.unmet (met_then S i some (first.fails i f.from l)) in
      let b : (first_unmet S < i → ⊥) = λ l. not_met_then (first_unmet S) (first.holds (omega (arith, f.to))) (f.before (first_unmet S) first.from l) in
      omega (arith, a, b)

  pub met_first : ((i : ℕ) → 1 ≤ i → i ≤ S.number → Met S i) → S.number < first_unmet S
  met_first p =
      let a : (first_unmet S ≤ S.number → ⊥) = λ l. not_met_then (first_unmet S) (first.holds (omega arith)) (p (first_unmet S) first.from l) in
      omega (arith, a)

-- ---- Exactly if

module _ (s : List ℕ) (room : ℕ) where
  -- a P-NET sheet that is read has streams, and so a V
  on_bus_some : (H : Sheet) → OnBus s H → 1 ≤ turn (segment_of H)
  on_bus_some H b = turn_some (segment_of H) (declared s H (reading_read s H b.reads) b.pnet)

  given_if : (n p : ℕ) → Given s room n p → urgently s room ≡ Not n p
  unfolding segment_of
  given_if n p (unread e) = urgently_unread s room n p e
  given_if n p (another_bus {H} e k) = urgently_other s room H e k
  given_if n p (no_room {H} b l) = urgently_short s room H b.reads b.pnet (length H.streams) refl l
  given_if n p (not_met {H} b l f) = urgently_unmet s room H b.reads b.pnet l p (unmet_first (segment_of H) (on_bus_some H b) p f) f.to

  accepted_if : (H : Sheet) → Accepted s room H → urgently s room ≡ Read H
  unfolding segment_of
  accepted_if H a =
      let b = a.on_bus in
      urgently_read s room H b.reads b.pnet a.enough (met_first (segment_of H) (on_bus_some H b) a.met)

  -- a sheet that is read: the first line that applies, or none
  module _ (H : Sheet) (e : reading s ≡ Read H) where
    on_bus : not (eqb (bus_in H) pnet) ≡ false → OnBus s H
    on_bus k = record { reads = e; pnet = eqb-true (bus_in H) pnet (not-false _ k) }

    line : (n p : ℕ) → Applies (urgent_checks H room) n p → Given s room n p
    unfolding segment_of
    line n p (here k) = another_bus e (eqb-false (bus_in H) pnet (not-true _ k))
    line n p (later k (here r)) = no_room (on_bus k) (ltb-true room (length H.streams) r)
    line n p (later k (later r (here l))) =
        not_met (on_bus k) (ltb-false room (length H.streams) r)
        (first_unmet_law (segment_of H) (on_bus_some H (on_bus k)) (leb-true (first_unmet (segment_of H)) (length H.streams) l))
    line n p (later k (later r (later _ none_is_left))) = elim none_is_left [ ]

    no_line : Clear (urgent_checks H room) → Accepted s room H
    unfolding segment_of
    no_line (and k (and r (and l none))) =
        record {
          on_bus = on_bus k;
          enough = ltb-false room (length H.streams) r;
          met = all_met (segment_of H) (on_bus_some H (on_bus k)) (leb-false (first_unmet (segment_of H)) (length H.streams) l);
        }

  -- what was answered, by cases on the reading
  given_then : (n p : ℕ) → urgently s room ≡ Not n p → Given s room n p
  unfolding urgently
  given_then n p = split (reading s) refl
    where
      of_verdict : (H : Sheet) → reading s ≡ Read H → (v : Verdict) → verdict (urgent_checks H room) ≡ v → or_else v (Read H) ≡ Not n p → Given s room n p
      of_verdict H e Passed q r = let z : ◌≡◌ {A = ℕ} 0 1 = cc in absurd (omega arith)
      of_verdict H e (Refused m k) q r =
          let en : m ≡ n = cc in
          let ek : k ≡ p = cc in
          rw (← en, ← ek) (line H e m k (refused_then (urgent_checks H room) m k q))

      split : (o : Outcome) → reading s ≡ o → urgent_by o room ≡ Not n p → Given s room n p
      split (Read H) e r = of_verdict H e (verdict (urgent_checks H room)) refl r
      split (Not m k) e r = unread (e ∙ r)

  accepted_then : (H : Sheet) → urgently s room ≡ Read H → Accepted s room H
  unfolding urgently
  accepted_then H = split (reading s) refl
    where
      of_verdict : (G : Sheet) → reading s ≡ Read G → (v : Verdict) → verdict (urgent_checks G room) ≡ v → or_else v (Read G) ≡ Read H → Accepted s room H
      of_verdict G e Passed q r =
          let g : G ≡ H = cc in
          rw (← g) (no_line G e (passed_then (urgent_checks G room) q))
      of_verdict G e (Refused m k) q r = let z : ◌≡◌ {A = ℕ} 0 1 = cc in absurd (omega arith)

      split : (o : Outcome) → reading s ≡ o → urgent_by o room ≡ Read H → Accepted s room H
      split (Read G) e r = of_verdict G e (verdict (urgent_checks G room)) refl r
      split (Not m k) e r = let z : ◌≡◌ {A = ℕ} 0 1 = cc in absurd (omega arith)

  -- a number with a place exactly if the page gives it
  pub refused_exactly : (n p : ℕ) → (urgently s room ≡ Not n p) ↔ Given s room n p
  refused_exactly n p = (given_then n p, given_if n p)

  -- a sheet exactly if the page gives none
  pub accepted_exactly : (H : Sheet) → (urgently s room ≡ Read H) ↔ Accepted s room H
  accepted_exactly H = (accepted_then H, accepted_if H)

  -- so one number and place at most is given
  pub given_once : (n p m q : ℕ) → Given s room n p → Given s room m q → (n ≡ m) × (p ≡ q)
  given_once n p m q g h =
      let e : Not n p ≡ Not m q = sym (given_if n p g) ∙ given_if m q h in
      (cc, cc)
