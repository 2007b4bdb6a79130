-- What holds of the report of any bytes: an accepted sheet is planned by its own bus, reading's refusals are reported alike whichever
-- planner is picked, 13 never shows, and the first `enough` bytes decide the report and its answer. Assumes nothing.
use mathlib.Core.Path.{◌≡◌, refl, sym, ap, ◌∙◌}
use mathlib.Core.List.{List}
use mathlib.Core.Bool.{Bool, true, false, cond, not, ◌||◌}
use mathlib.Core.Logic.{⊎_elim}
use Prim.Native.Nat.{ℕ, ◌+◌, ◌≤◌, ◌<◌}
use native.Mathlib.Omega.{arith}
use lib.Dec.{eqb, ltb, leb}
use lib.ListN.{length, get_or, take}
use lib.Seq.{take_all}
use borrow.Author.Tests.{eqb-true, not-false, lt-ltb, le-ltb}
use Rattle.common.specs.Checks.{verdict, Verdict}
use Rattle.common.specs.Checks.Verdict.{Passed, Refused}
use Rattle.sheet_reader.specs.Walk.{byte_checks, found_of}
use Rattle.sheet_rules.specs.Sheets.{Sheet, bus_in}
use Rattle.sheet_rules.specs.Whole.{Outcome, or_else, place_of, reading}
use Rattle.sheet_rules.specs.Whole.Outcome.{Read, Not}
use Rattle.sheet_rules.specs.Lengths.{enough}
use Rattle.sheet_rules.proofs.Lengths.{longest_sheet_is, enough_is, length_at_most, reading_prefix}
use Rattle.sheet_rules.proofs.Refusals.{given_then, numbers_given}
use Rattle.sheet_rules.proofs.Known.{reading_whole, reading_read}
use Rattle.sheet_rules.proofs.Walk.{head_at}
use Rattle.sheet_record.specs.declared.Record.{Record}
use Rattle.sheet_record.specs.Kinds.{bus_of, size_of, decode}
use Rattle.sheet_record.proofs.Parts.{pnet_first}
use Rattle.sheet_ranges.proofs.Ranges.{segment_ranges}
use Rattle.pnet_rules.specs.Segment.{segment_of}
use Rattle.pnet_plan.specs.Planned.{first_late, plan_checks, planned_by, planned, plan_of as segment_plan}
use Rattle.profibus_plan.specs.Planned.{plan_of as ring_plan}
use Rattle.worldfip_rules.specs.Traffic.{Traffic, slots, rows, miss_of, missing_of}
use Rattle.worldfip_figures.specs.Declares.{traffic_of}
use Rattle.worldfip_plan.specs.Answer as fip
use Rattle.report_phrases.specs.Phrases.{refusal_text}
use Rattle.report_sheet.specs.Whole.{segment_report, segment_accepts, ring_report, ring_accepts, table_report, table_accepts, first_bus, report_of, accepts, answer_of}
use Rattle.std.specs.declared.result.Result.TheVariants.{Err}
use Rattle.common.specs.Checks.{refusal}
use Rattle.common.proofs.Answered.{same_refusal}

-- the report is made from that bus and the reading
report_by : ℕ → Outcome → List ℕ
report_by k o = cond (eqb k 3) (ring_report (ring_plan o)) (cond (eqb k 5) (table_report o) (segment_report (planned_by o 32 32 32)))

report_by_law : (s : List ℕ) → report_of s ≡ report_by (first_bus s) (reading s)
unfolding report_of report_by planned
report_by_law s = refl

-- and so is whether the sheet is accepted
accepts_by : ℕ → Outcome → Bool
accepts_by k o =
    cond (eqb k 3) (ring_accepts (ring_plan o))
    (cond (eqb k 5) (table_accepts (fip.plan_of o 4096)) (segment_accepts (segment_plan (planned_by o 32 32 32))))

accepts_by_law : (s : List ℕ) → accepts s ≡ accepts_by (first_bus s) (reading s)
unfolding accepts accepts_by planned
accepts_by_law s = refl

-- ---- An accepted sheet has its own bus's report

pub own_bus : (s : List ℕ) (S : Sheet) → reading s ≡ Read S → first_bus s ≡ bus_in S
unfolding first_bus found_of byte_checks verdict place_of decode
own_bus s S e =
    let r = reading_whole s S e in
    let inside : 0 < length s = r.upto.inside 0 (omega arith) in
    let p = r.upto.passed 0 (omega arith) in
    let found : first_bus s ≡ bus_of (get_or s 0 0) = simp (lt-ltb 0 (length s) inside, p.is_known, le-ltb (length s) (0 + size_of (get_or s 0 0)) p.is_whole) in
    found ∙ ap (λ (R : Record). bus_of R.kind) (sym (ap (λ (H : Sheet). H.head) r.says ∙ head_at s r.m))

-- ---- Two sheets that say the same have one report

module _ (s k : List ℕ) (S S' : Sheet) (was : reading s ≡ Read S) (now : reading k ≡ Read S') where
  -- bytes that are read as one sheet
  pub read_alike : S' ≡ S → (report_of k ≡ report_of s) × (accepts k ≡ accepts s)
  read_alike e =
      let r : reading k ≡ reading s = now ∙ (ap Read e ∙ sym was) in
      let b : first_bus k ≡ first_bus s = own_bus k S' now ∙ (ap bus_in e ∙ sym (own_bus s S was)) in (
        report_by_law k ∙ (ap (report_by (first_bus k)) r ∙ (ap (λ (n : ℕ). report_by n (reading s)) b ∙ sym (report_by_law s))),
        accepts_by_law k ∙ (ap (accepts_by (first_bus k)) r ∙ (ap (λ (n : ℕ). accepts_by n (reading s)) b ∙ sym (accepts_by_law s))),
      )

  -- rings that the planner answers alike
  pub rings_alike : bus_in S ≡ 3 → bus_in S' ≡ 3 → ring_plan (reading k) ≡ ring_plan (reading s) → (report_of k ≡ report_of s) × (accepts k ≡ accepts s)
  unfolding report_by accepts_by
  rings_alike b b' same =
      let f : first_bus s ≡ 3 = own_bus s S was ∙ b in
      let f' : first_bus k ≡ 3 = own_bus k S' now ∙ b' in (
        report_by_law k ∙ (ap (λ (n : ℕ). report_by n (reading k)) f' ∙ (ap ring_report same ∙ sym (report_by_law s ∙ ap (λ (n : ℕ). report_by n (reading s)) f))),
        accepts_by_law k ∙ (ap (λ (n : ℕ). accepts_by n (reading k)) f' ∙ (ap ring_accepts same ∙ sym (accepts_by_law s ∙ ap (λ (n : ℕ). accepts_by n (reading s)) f))),
      )

-- ---- Reading's refusals

-- whichever is picked
pub picks : {A : Type 0} (a b : Bool) (x : A) → cond a x (cond b x x) ≡ x
picks true b x = refl
picks false true x = refl
picks false false x = refl

module _ (s : List ℕ) (n p : ℕ) (e : reading s ≡ Not n p) where
  pub refused_alike : report_of s ≡ refusal_text n p
  unfolding report_by ring_report table_report segment_report ring_plan
  refused_alike = report_by_law s ∙ (ap (report_by (first_bus s)) e ∙ picks (eqb (first_bus s) 3) (eqb (first_bus s) 5) (refusal_text n p))

  pub refused_by_each : accepts s ≡ false
  unfolding accepts_by ring_accepts table_accepts segment_accepts ring_plan fip.plan_of
  refused_by_each = accepts_by_law s ∙ (ap (accepts_by (first_bus s)) e ∙ picks (eqb (first_bus s) 3) (eqb (first_bus s) 5) false)

-- ---- A bounded buffer serves

-- what is said of a refused sheet by reading's refusal alone, is said alike of bytes that are read as the sheet is and are the sheet where it is accepted: its
-- first bytes, and what is kept of one that was given as text (sheet_pieces: Comes)
module _ {A : Type 0} (f : List ℕ → A) (g : ℕ → ℕ → A) (refused : (s : List ℕ) (n p : ℕ) → reading s ≡ Not n p → f s ≡ g n p) where
  alike : (k s : List ℕ) → reading k ≡ reading s → ((S : Sheet) → reading s ≡ Read S → k ≡ s) → f k ≡ f s
  alike k s same whole = by (reading s) refl
    where
      by : (o : Outcome) → reading s ≡ o → f k ≡ f s
      by (Not n p) e = refused k n p (same ∙ e) ∙ sym (refused s n p e)
      by (Read S) e = ap f (whole S e)

  settled : (s : List ℕ) → f s ≡ f (take enough s)
  settled s = sym (alike (take enough s) s (sym (reading_prefix s)) (λ S e. take_all enough s (omega (arith, length_at_most s S e, longest_sheet_is, enough_is))))

pub report_alike : (k s : List ℕ) → reading k ≡ reading s → ((S : Sheet) → reading s ≡ Read S → k ≡ s) → report_of k ≡ report_of s
report_alike = alike report_of refusal_text refused_alike

pub accepts_alike : (k s : List ℕ) → reading k ≡ reading s → ((S : Sheet) → reading s ≡ Read S → k ≡ s) → accepts k ≡ accepts s
accepts_alike = alike accepts (λ n p. false) refused_by_each

pub report_prefix : (s : List ℕ) → report_of s ≡ report_of (take enough s)
report_prefix = settled report_of refusal_text refused_alike

pub accepts_prefix : (s : List ℕ) → accepts s ≡ accepts (take enough s)
accepts_prefix = settled accepts (λ n p. false) refused_by_each

pub answer_prefix : (s : List ℕ) (room : ℕ) → answer_of s room ≡ answer_of (take enough s) room
unfolding answer_of
answer_prefix s room = rw (accepts_prefix s, report_prefix s)

-- ---- 13 never shows

same_number : {n m p q : ℕ} → Refused n p ≡ Refused m q → n ≡ m
same_number e = cc

passed_not : {n p : ℕ} → Passed ≡ Refused n p → ⊥
passed_not e = let z : ◌≡◌ {A = ℕ} 0 1 = cc in omega arith

false_not : true ≡ false → ⊥
false_not e = let z : ◌≡◌ {A = ℕ} 0 1 = cc in omega arith

-- 32 places hold every segment
pub no_13_segment : (s : List ℕ) (p : ℕ) → planned s 32 32 32 ≡ Not 13 p → ⊥
unfolding planned plan_checks verdict
no_13_segment s p e = by (reading s) refl e
  where
    checks : (a b c : Bool) (x y : ℕ) → (a ≡ false → b ≡ false) → cond a (Refused 3 0) (cond b (Refused 13 x) (cond c (Refused 8 y) Passed)) ≡ Refused 13 p → ⊥
    checks true b c x y h f = omega (arith, same_number f)
    checks false true c x y h f = false_not (h refl)
    checks false false true x y h f = omega (arith, same_number f)
    checks false false false x y h f = passed_not f

    refused : (H : Sheet) (v : Verdict) → or_else v (Read H) ≡ Not 13 p → v ≡ Refused 13 p
    refused H Passed f = let z : ◌≡◌ {A = ℕ} 0 1 = cc in absurd (omega arith)
    refused H (Refused n q) f = cc

    by : (o : Outcome) → reading s ≡ o → planned_by o 32 32 32 ≡ Not 13 p → ⊥
    by (Not n q) r f = let k : n ≡ 13 = cc in ⊎_elim (λ (l : n ≤ 7). omega arith) (λ (e : n ≡ 20). omega arith) (numbers_given s (given_then s n q r)).1
    by (Read H) r f =
        let N = H.head.a in
        checks (not (eqb (bus_in H) 1)) (ltb 32 N || (ltb 32 N || ltb 32 N)) (leb (first_late (segment_of H)) (length H.streams)) N (first_late (segment_of H))
        (λ q.
        let h = reading_read s H r in
        let k : H.head.kind ≡ 1 = pnet_first H.head.kind h.head_first (eqb-true (bus_in H) 1 (not-false (eqb (bus_in H) 1) q)) in
        let few : N ≤ 32 = (segment_ranges _ H.head h.head_ranged k).masters.most in
        simp (le-ltb 32 N few))
        (refused H (verdict (plan_checks H 32 32 32)) f)

-- 4,096 places hold every table
pub no_13_table : (s : List ℕ) (p : ℕ) → fip.plan_of (reading s) 4096 ≡ Err (refusal 13 p) → ⊥
unfolding fip.plan_of fip.plan_checks verdict
no_13_table s p e = by (reading s) refl e
  where
    checks : (a b c d : Bool) (x y : ℕ) → cond a (Refused 3 0) (cond b (Refused 10 0) (cond c (Refused 11 0) (cond c (Refused 13 x) (cond d (Refused 12 y) Passed)))) ≡ Refused 13 p → ⊥
    checks true b c d x y f = omega (arith, same_number f)
    checks false true c d x y f = omega (arith, same_number f)
    checks false false true d x y f = omega (arith, same_number f)
    checks false false false true x y f = omega (arith, same_number f)
    checks false false false false x y f = passed_not f

    refused : (T : Traffic) (v : Verdict) → fip.plan_by v T ≡ Err (refusal 13 p) → v ≡ Refused 13 p
    refused T Passed f = let z : ◌≡◌ {A = ℕ} 0 1 = cc in absurd (omega arith)
    refused T (Refused n q) f = let e = same_refusal f in rw (e.0, e.1)

    by : (o : Outcome) → reading s ≡ o → fip.plan_of o 4096 ≡ Err (refusal 13 p) → ⊥
    by (Not n q) r f = let k : n ≡ 13 = (same_refusal f).0 in ⊎_elim (λ (l : n ≤ 7). omega arith) (λ (e : n ≡ 20). omega arith) (numbers_given s (given_then s n q r)).1
    by (Read S) r f =
        let T = traffic_of S in
        checks (not (eqb (bus_in S) 5)) (eqb (slots T) 0) (ltb 4096 (rows T)) (leb (miss_of T) (rows T)) (rows T) (missing_of T)
        (refused T (verdict (fip.plan_checks S 4096)) f)
