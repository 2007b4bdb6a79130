-- A P-NET report: what the three runs of an accepted sheet give is what the segment's figures are, master by master. Assumes nothing.
use mathlib.Core.Path.{◌≡◌, refl, ap, ◌∙◌}
use mathlib.Core.List.{List, ◌++◌}
use mathlib.Core.Bool.{Bool, true, false, ◌||◌}
use Prim.Native.Nat.{ℕ, ◌+◌, ◌≤◌, ◌<◌}
use native.Mathlib.Omega.{arith}
use lib.Dec.{ltb}
use borrow.Author.Tests.{ltb-false}
use Rattle.common.specs.Checks.{verdict, Verdict}
use Rattle.common.specs.Checks.Verdict.{Passed, Refused}
use Rattle.common.proofs.Checks.{Clear, passed_then}
use Rattle.common.proofs.Checks.Clear.{and}
use Rattle.common.proofs.Runs.{filled_at}
use Rattle.sheet_rules.specs.Sheets.{Sheet}
use Rattle.sheet_rules.specs.Whole.{Outcome, or_else, reading}
use Rattle.sheet_rules.specs.Whole.Outcome.{Read, Not}
use Rattle.pnet_rules.specs.Segment.{Segment, segment_of, bound}
use Rattle.pnet_rules.specs.Refined.{refined, rounds}
use Rattle.pnet_rules.proofs.Holds.{silent_by_bound}
use Rattle.pnet_plan.specs.Planned.{plan_checks, planned_by, planned, plan_of, at_place, run_of}
use Rattle.text.proofs.Writing.{texts_same}
use Rattle.text.specs.Text.{word, item}
use Rattle.report_phrases.specs.Phrases.{refusal_text}
use Rattle.report_lines.specs.Lines.{master_text}
use Rattle.report_sheet.specs.Arrays.{master_at, segment_text}
use Rattle.report_sheet.specs.Whole.{master_of, masters_of, segment_report}
use Rattle.std.specs.declared.result.Result.TheVariants.{Ok, Err}
use Rattle.common.specs.Checks.{refusal}
use Rattle.common.proofs.Answered.{accepts_alike, same_refusal}
use Rattle.pnet_plan.specs.declared.answer.Plan.{Plan}

-- ---- From the runs to the segment

module _ (S : Segment) (R W M : ℕ → ℕ) (i : ℕ) (h : i < S.masters)
    (r : R i ≡ bound S (i + 1)) (w : W i ≡ refined S (i + 1)) (m : M i ≡ rounds S (i + 1)) where
  master_same : master_at R W M i ≡ master_of S (i + 1)
  unfolding master_at master_text master_of
  master_same = rw (r, w, m, silent_by_bound S (omega arith) (i + 1))

-- what a sheet passed that was planned without refusal
planned_read : (s : List ℕ) (H : Sheet) (la lb lc : ℕ) → planned s la lb lc ≡ Read H → (reading s ≡ Read H) × (verdict (plan_checks H la lb lc) ≡ Passed)
unfolding planned
planned_read s H la lb lc e = by (reading s) refl e
  where
    passed : (G : Sheet) (v : Verdict) → verdict (plan_checks G la lb lc) ≡ v → reading s ≡ Read G → or_else v (Read G) ≡ Read H
        → (reading s ≡ Read H) × (verdict (plan_checks H la lb lc) ≡ Passed)
    passed G Passed q g f = let same : G ≡ H = cc in (g ∙ ap Read same, rw (← same) q)
    passed G (Refused n p) q g f = let z : ◌≡◌ {A = ℕ} 0 1 = cc in absurd (omega arith)

    by : (o : Outcome) → reading s ≡ o → planned_by o la lb lc ≡ Read H → (reading s ≡ Read H) × (verdict (plan_checks H la lb lc) ≡ Passed)
    by (Read G) g f = passed G (verdict (plan_checks G la lb lc)) refl g f
    by (Not n p) g f = let z : ◌≡◌ {A = ℕ} 0 1 = cc in absurd (omega arith)

-- 32 places were enough
pub masters_few : (s : List ℕ) (H : Sheet) → planned s 32 32 32 ≡ Read H → H.head.a ≤ 32
unfolding plan_checks
masters_few s H e = by (passed_then (plan_checks H 32 32 32) (planned_read s H 32 32 32 e).1)
  where
    by : Clear (plan_checks H 32 32 32) → H.head.a ≤ 32
    by (and a (and b c)) = first_of (ltb 32 H.head.a) refl b
      where
        first_of : (t : Bool) → ltb 32 H.head.a ≡ t → (t || (t || t)) ≡ false → H.head.a ≤ 32
        first_of true q f = let z : ◌≡◌ {A = ℕ} 0 1 = cc in absurd (omega arith)
        first_of false q f = ltb-false 32 H.head.a q

-- the lines that three runs give, filled with the figures of an accepted sheet's segment
segment_lines : (H : Sheet) (R W M r w k : List ℕ) → R ≡ run_of (Read H) bound r → W ≡ run_of (Read H) refined w → M ≡ run_of (Read H) rounds k
    → segment_text (item R) (item W) (item M) H.head.a ≡ segment_report (Read H)
unfolding segment_text segment_report masters_of segment_of
segment_lines H R W M r w k er ew em =
    let S = segment_of H in
    let N = H.head.a in
    ap (λ (t : List ℕ). word "P-NET segment\n" ++ t)
    (texts_same (master_at (item R) (item W) (item M)) (λ i. master_of S (i + 1)) N
    (λ i h. master_same S (item R) (item W) (item M) i h
    (ap (λ (l : List ℕ). item l i) er ∙ filled_at (at_place (bound S)) N i r h)
    (ap (λ (l : List ℕ). item l i) ew ∙ filled_at (at_place (refined S)) N i w h)
    (ap (λ (l : List ℕ). item l i) em ∙ filled_at (at_place (rounds S)) N i k h)))

-- the report of an accepted sheet, from the runs
pub segment_of_runs : (s : List ℕ) (n m : ℕ) (R W M r w k : List ℕ) → Ok (record { masters = n; streams = m }) ≡ plan_of (planned s 32 32 32)
    → R ≡ run_of (planned s 32 32 32) bound r → W ≡ run_of (planned s 32 32 32) refined w → M ≡ run_of (planned s 32 32 32) rounds k
    → (n ≤ 32) × (segment_text (item R) (item W) (item M) n ≡ segment_report (planned s 32 32 32))
segment_of_runs s n m R W M r w k e er ew em = by (planned s 32 32 32) refl e er ew em
  where
    by : (o : Outcome) → planned s 32 32 32 ≡ o → Ok (record { masters = n; streams = m }) ≡ plan_of o → R ≡ run_of o bound r → W ≡ run_of o refined w → M ≡ run_of o rounds k
        → (n ≤ 32) × (segment_text (item R) (item W) (item M) n ≡ segment_report o)
    by (Read H) q a rr ww mm = let same : n ≡ H.head.a = ap (λ (x : Plan). x.masters) (accepts_alike a) in (omega (arith, masters_few s H q), rw same (segment_lines H R W M r w k rr ww mm))
    by (Not x p) q a rr ww mm = let z : ◌≡◌ {A = ℕ} 0 1 = cc in absurd (omega arith)

-- and of a refused one
pub segment_refused : (o : Outcome) (n p : ℕ) → Err (refusal n p) ≡ plan_of o → segment_report o ≡ refusal_text n p
unfolding segment_report
segment_refused (Read H) n p e = let z : ◌≡◌ {A = ℕ} 0 1 = cc in absurd (omega arith)
segment_refused (Not x y) n p e = let q = same_refusal e in rw (q.0, q.1)
