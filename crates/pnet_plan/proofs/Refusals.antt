-- Page 01, 'Numbered refusals': the P-NET planner gives a number with a place exactly if the page's table gives it, and accepts a sheet
-- exactly if the table gives none. Any two outcomes that its contract allows are equal. Assumes nothing.
use mathlib.Core.Path.{◌≡◌, refl, sym, ◌∙◌}
use mathlib.Core.Bool.{true, false, not, ◌||◌}
use mathlib.Core.List.{List}
use mathlib.Core.Logic.{◌↔◌}
use Prim.Native.Nat.{ℕ, ◌≤◌, ◌<◌}
use native.Mathlib.Omega.{arith}
use borrow.Author.Tests.{le-ltb, ltb-true, ltb-false, leb-true, leb-false, eqb-true, eqb-false, not-true, not-false}
use lib.ListN.{length}
use lib.Dec.{ltb, eqb}
use Rattle.common.specs.Checks.{verdict, Verdict}
use Rattle.common.specs.Checks.Verdict.{Passed, Refused}
use Rattle.common.proofs.Checks.{Applies, Clear, refused_then, passed_then}
use Rattle.common.proofs.Checks.Applies.{here, later}
use Rattle.common.proofs.Checks.Clear.{none, and}
use Rattle.common.proofs.Firsts.{First, first_is}
use Rattle.sheet_record.specs.Kinds.{pnet}
use Rattle.sheet_rules.specs.Sheets.{Sheet, bus_in, masters_of}
use Rattle.sheet_rules.specs.Whole.{Outcome, or_else, reading}
use Rattle.sheet_rules.specs.Whole.Outcome.{Read, Not}
use Rattle.sheet_rules.proofs.Known.{both_fail}
use Rattle.pnet_rules.specs.Segment.{Segment, segment_of, bound, late}
use Rattle.pnet_rules.specs.Bus.{OnBus}
use Rattle.pnet_plan.specs.declared.answer.Plan.{Plan}
use Rattle.pnet_plan.specs.Planned.{first_late, plan_checks, planned_by, planned}
use Rattle.pnet_plan.specs.Refusals.{Passes, FirstFails, Room, Given, Accepted}
use Rattle.pnet_plan.specs.Refusals.Given.{unread, another_bus, no_room, too_late}
use Rattle.pnet_plan.proofs.Cases.{planned_unread, planned_other, planned_short, planned_late, planned_read, Returned}
use Rattle.std.specs.declared.result.Result.{Result}
use Rattle.common.specs.declared.Refusal.{Refusal}

-- ---- The first stream that fails

module _ (S : Segment) where
  fails_then : (i : ℕ) → late S i ≡ true → (S.stream i).deadline < bound S (S.stream i).master
  unfolding late
  fails_then i e = ltb-true (S.stream i).deadline (bound S (S.stream i).master) e

  passes_then : (i : ℕ) → late S i ≡ false → Passes S i
  unfolding late
  passes_then i e = record { in_time = ltb-false (S.stream i).deadline (bound S (S.stream i).master) e }

  first : First (late S) S.number 1 (first_late S)
  unfolding first_late
  first = first_is (late S) S.number 1

  pub first_fails : first_late S ≤ S.number → FirstFails S (first_late S)
  first_fails l =
      record { from = first.from; to = l; above = fails_then (first_late S) (first.holds (omega arith)); before = λ j lo hi. passes_then j (first.fails j lo hi) }

  pub all_pass : S.number < first_late S → (i : ℕ) → 1 ≤ i → i ≤ S.number → Passes S i
  all_pass l i lo hi = passes_then i (first.fails i lo (omega arith))

  -- and no other number is the first
  pub fails_first : (i : ℕ) → FirstFails S i → i ≡ first_late S
  fails_first i f =
      let a : (i < first_late S → ⊥) = λ l. let p = passes_then i (first.fails i f.from l) in omega (arith, f.above, p.in_time) in
      let b : (first_late S < i → ⊥) =
      λ l.
      let p = f.before (first_late S) first.from l in
      let q = fails_then (first_late S) (first.holds (omega (arith, f.to))) in
      omega (arith, p.in_time) in
      omega (arith, a, b)

  pub pass_first : ((i : ℕ) → 1 ≤ i → i ≤ S.number → Passes S i) → S.number < first_late S
  pass_first p =
      let a : (first_late S ≤ S.number → ⊥) =
      λ l.
      let q = p (first_late S) first.from l in
      let r = fails_then (first_late S) (first.holds (omega arith)) in
      omega (arith, q.in_time) in
      omega (arith, a)

-- ---- Room

room_then : (la lb lc N : ℕ) → (ltb la N || (ltb lb N || ltb lc N)) ≡ false → Room la lb lc N
room_then la lb lc N e =
    let a = both_fail (ltb la N) (ltb lb N || ltb lc N) e in
    let b = both_fail (ltb lb N) (ltb lc N) a.1 in
    record { for_bound = ltb-false la N a.0; for_refined = ltb-false lb N b.0; for_rounds = ltb-false lc N b.1 }

no_room_then : (la lb lc N : ℕ) → (ltb la N || (ltb lb N || ltb lc N)) ≡ true → Room la lb lc N → ⊥
no_room_then la lb lc N e r =
    let f : (ltb la N || (ltb lb N || ltb lc N)) ≡ false = rw (le-ltb la N r.for_bound, le-ltb lb N r.for_refined, le-ltb lc N r.for_rounds) in
    let z : ◌≡◌ {A = ℕ} 0 1 = cc in
    omega arith

-- ---- Exactly if

module _ (s : List ℕ) (la lb lc : ℕ) where
  given_if : (n p : ℕ) → Given s la lb lc n p → planned s la lb lc ≡ Not n p
  unfolding segment_of
  given_if n p (unread e) = planned_unread s la lb lc n p e
  given_if n p (another_bus {H} e k) = planned_other s la lb lc H e k
  given_if n p (no_room {H} b r) =
      planned_short s la lb lc H b.reads b.pnet (masters_of H) refl (λ x y z. r (record { for_bound = x; for_refined = y; for_rounds = z }))
  given_if n p (too_late {H} b r f) =
      planned_late s la lb lc H b.reads b.pnet r.for_bound r.for_refined r.for_rounds p (fails_first (segment_of H) p f) f.to

  accepted_if : (H : Sheet) → Accepted s la lb lc H → planned s la lb lc ≡ Read H
  unfolding segment_of
  accepted_if H a =
      let b = a.on_bus in
      let r = a.room in
      planned_read s la lb lc H b.reads b.pnet r.for_bound r.for_refined r.for_rounds (pass_first (segment_of H) a.passes)

  -- a sheet that is read: the first line that applies, or none
  module _ (H : Sheet) (e : reading s ≡ Read H) where
    on_bus : not (eqb (bus_in H) pnet) ≡ false → OnBus s H
    on_bus k = record { reads = e; pnet = eqb-true (bus_in H) pnet (not-false _ k) }

    line : (n p : ℕ) → Applies (plan_checks H la lb lc) n p → Given s la lb lc n p
    unfolding plan_checks segment_of
    line n p (here k) = another_bus e (eqb-false (bus_in H) pnet (not-true _ k))
    line n p (later k (here r)) = no_room (on_bus k) (no_room_then la lb lc (masters_of H) r)
    line n p (later k (later r (here l))) =
        too_late (on_bus k) (room_then la lb lc (masters_of H) r) (first_fails (segment_of H) (leb-true (first_late (segment_of H)) (length H.streams) l))
    line n p (later k (later r (later _ past))) = elim past [ ]

    no_line : Clear (plan_checks H la lb lc) → Accepted s la lb lc H
    unfolding plan_checks segment_of
    no_line (and k (and r (and l none))) =
        record {
          on_bus = on_bus k;
          room = room_then la lb lc (masters_of H) r;
          passes = all_pass (segment_of H) (leb-false (first_late (segment_of H)) (length H.streams) l);
        }

  -- what was planned, by cases on the reading
  given_then : (n p : ℕ) → planned s la lb lc ≡ Not n p → Given s la lb lc n p
  unfolding planned
  given_then n p = split (reading s) refl
    where
      of_verdict : (H : Sheet) → reading s ≡ Read H → (v : Verdict) → verdict (plan_checks H la lb lc) ≡ v → or_else v (Read H) ≡ Not n p → Given s la lb lc n p
      of_verdict H e Passed q r = let z : ◌≡◌ {A = ℕ} 0 1 = cc in absurd (omega arith)
      of_verdict H e (Refused m k) q r =
          let en : m ≡ n = cc in
          let ek : k ≡ p = cc in
          rw (← en, ← ek) (line H e m k (refused_then (plan_checks H la lb lc) m k q))

      split : (o : Outcome) → reading s ≡ o → planned_by o la lb lc ≡ Not n p → Given s la lb lc n p
      split (Read H) e r = of_verdict H e (verdict (plan_checks H la lb lc)) refl r
      split (Not m k) e r = unread (e ∙ r)

  accepted_then : (H : Sheet) → planned s la lb lc ≡ Read H → Accepted s la lb lc H
  unfolding planned
  accepted_then H = split (reading s) refl
    where
      of_verdict : (G : Sheet) → reading s ≡ Read G → (v : Verdict) → verdict (plan_checks G la lb lc) ≡ v → or_else v (Read G) ≡ Read H → Accepted s la lb lc H
      of_verdict G e Passed q r =
          let g : G ≡ H = cc in
          rw (← g) (no_line G e (passed_then (plan_checks G la lb lc) q))
      of_verdict G e (Refused m k) q r = let z : ◌≡◌ {A = ℕ} 0 1 = cc in absurd (omega arith)

      split : (o : Outcome) → reading s ≡ o → planned_by o la lb lc ≡ Read H → Accepted s la lb lc H
      split (Read G) e r = of_verdict G e (verdict (plan_checks G la lb lc)) refl r
      split (Not m k) e r = let z : ◌≡◌ {A = ℕ} 0 1 = cc in absurd (omega arith)

  -- a number with a place exactly if the table gives it
  pub refused_exactly : (n p : ℕ) → (planned s la lb lc ≡ Not n p) ↔ Given s la lb lc n p
  refused_exactly n p = (given_then n p, given_if n p)

  -- a sheet exactly if the table gives none
  pub accepted_exactly : (H : Sheet) → (planned s la lb lc ≡ Read H) ↔ Accepted s la lb lc H
  accepted_exactly H = (accepted_then H, accepted_if H)

  -- so one number and place at most is given
  pub given_once : (n p m q : ℕ) → Given s la lb lc n p → Given s la lb lc m q → (n ≡ m) × (p ≡ q)
  given_once n p m q g h =
      let e : Not n p ≡ Not m q = sym (given_if n p g) ∙ given_if m q h in
      (cc, cc)

-- ---- Any two outcomes that the contract allows are equal

pub outcomes_equal : (s x y z : List ℕ) (r r' : Result Plan Refusal) (a a' b b' c c' : List ℕ) → Returned s x y z r a b c → Returned s x y z r' a' b' c'
    → (r ≡ r') × (a ≡ a') × (b ≡ b') × (c ≡ c')
outcomes_equal s x y z r r' a a' b b' c c' (er, ea, eb, ec) (fr, fa, fb, fc) = (er ∙ sym fr, ea ∙ sym fa, eb ∙ sym fb, ec ∙ sym fc)
