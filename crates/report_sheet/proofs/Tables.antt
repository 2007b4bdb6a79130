-- A WorldFIP report: what the lent run and the identifiers of an accepted sheet give is the table that the sheet asks for. Assumes nothing.
use mathlib.Core.Path.{◌≡◌, refl, ap, ◌∙◌}
use mathlib.Core.List.{List, ◌++◌}
use Prim.Native.Nat.{ℕ, ◌/◌, ◌%◌, ◌^◌, ◌≤◌, ◌<◌}
use native.Mathlib.Omega.{arith}
use lib.Dec.{eqb}
use lib.ListN.{length}
use borrow.Author.Tests.{eq-eqb, eqb-true, ltb-false, not-false}
use Rattle.common.specs.Runs.{tab, filled}
use Rattle.common.specs.Checks.{verdict, Verdict}
use Rattle.common.specs.Checks.Verdict.{Passed, Refused}
use Rattle.common.proofs.Checks.{Clear, passed_then}
use Rattle.common.proofs.Checks.Clear.{and}
use Rattle.common.proofs.Runs.{get_d_tab, filled_at}
use Rattle.units.specs.Units.{us}
use Rattle.units.specs.declared.Micros.{Micros}
use Rattle.sheet_rules.specs.Sheets.{Sheet, bus_in}
use Rattle.sheet_rules.specs.Whole.{Outcome}
use Rattle.sheet_rules.specs.Whole.Outcome.{Read, Not}
use Rattle.worldfip_rules.specs.Traffic.{microcycle, slots, rows, row_of, identifier_at}
use Rattle.worldfip_figures.specs.Declares.{traffic_of}
use Rattle.worldfip_figures.specs.Figures.{identifier_of}
use Rattle.worldfip_plan.specs.Answer.{plan_checks, plan_by, plan_of, run_by, run_of}
use Rattle.text.specs.Text.{item}
use Rattle.report_phrases.specs.Phrases.{refusal_text}
use Rattle.report_lines.specs.Lines.{name_text, name_at, row_line, table_head}
use Rattle.report_sheet.specs.Whole.{table_of, table_by, table_report, row_at, table_text}
use Rattle.text.proofs.Writing.{texts_same}
use Rattle.std.specs.declared.result.Result.TheVariants.{Ok, Err}
use Rattle.common.specs.Checks.{refusal}
use Rattle.common.proofs.Answered.{accepts_alike, same_refusal}
use Rattle.worldfip_plan.specs.declared.answer.Plan.{Plan}

-- identifiers that agree at the 64 ranks name a row alike
row_same : (m row : ℕ) (f g : ℕ → ℕ) → ((r : ℕ) → r < 64 → f r ≡ g r) → row_line m row f ≡ row_line m row g
unfolding row_line name_at
row_same m row f g e = rw (texts_same (name_at row f) (name_at row g) 64 (λ r h. ap (name_text (row / 2 ^ r % 2)) (e r h)))

-- what a sheet passed that has a table
pub table_passed : (S : Sheet) → verdict (plan_checks S 4096) ≡ Passed → (bus_in S ≡ 5) × (rows (traffic_of S) ≤ 4096)
unfolding plan_checks
table_passed S e = by (passed_then (plan_checks S 4096) e)
  where
    by : Clear (plan_checks S 4096) → (bus_in S ≡ 5) × (rows (traffic_of S) ≤ 4096)
    by (and a (and b (and c d))) = (eqb-true (bus_in S) 5 (not-false (eqb (bus_in S) 5) a), ltb-false 4096 (rows (traffic_of S)) c)

-- the lines that a run and 64 identifiers give, filled with the sheet's table
table_lines : (S : Sheet) (R N old : List ℕ) → bus_in S ≡ 5 → R ≡ filled (row_of (traffic_of S)) (rows (traffic_of S)) old
    → N ≡ tab (identifier_of (Read S)) 64
    → table_text (us (microcycle (traffic_of S))) (slots (traffic_of S)) (rows (traffic_of S)) (item R) (item N) ≡ table_of (traffic_of S)
unfolding table_text table_of row_at identifier_of
table_lines S R N old k er en =
    let T = traffic_of S in
    ap (λ (t : List ℕ). table_head (us (microcycle T)) (slots T) (rows T) ++ t)
    (texts_same (row_at (item R) (item N)) (row_at (row_of T) (identifier_at T)) (rows T)
    (λ m h. ap (λ (x : ℕ). row_line m x (item N)) (ap (λ (l : List ℕ). item l m) er ∙ filled_at (row_of T) (rows T) m old h)
    ∙ row_same m (row_of T m) (item N) (identifier_at T)
    (λ r l. ap (λ (x : List ℕ). item x r) en ∙ (get_d_tab (identifier_of (Read S)) 64 r l ∙ simp (eq-eqb (bus_in S) 5 k)))))

-- the report of an accepted sheet, from the run and the identifiers
pub table_of_run : (o : Outcome) (c : Micros) (s n : ℕ) (R N old : List ℕ) → length old ≡ 4096 → Ok (record { microcycle = c; slots = s; rows = n }) ≡ plan_of o 4096 → R ≡ run_of o old
    → N ≡ tab (identifier_of o) 64 → (n ≤ 4096) × (table_text c s n (item R) (item N) ≡ table_report o)
unfolding plan_of run_of table_report
table_of_run (Not x p) c s n R N old l a er en = let z : ◌≡◌ {A = ℕ} 0 1 = cc in absurd (omega arith)
table_of_run (Read S) c s n R N old l a er en = by (verdict (plan_checks S 4096)) refl a (rw l at er)
  where
    by : (v : Verdict) → verdict (plan_checks S 4096) ≡ v → Ok (record { microcycle = c; slots = s; rows = n }) ≡ plan_by v (traffic_of S) → R ≡ run_by v (traffic_of S) old
        → (n ≤ 4096) × (table_text c s n (item R) (item N) ≡ table_by v (traffic_of S))
    by Passed q b r =
        let f = accepts_alike b in
        let ec = ap (λ (x : Plan). x.microcycle) f in
        let es = ap (λ (x : Plan). x.slots) f in
        let em = ap (λ (x : Plan). x.rows) f in
        let p = table_passed S q in
        (omega (arith, em, p.1), rw (ec, es, em) (table_lines S R N old p.0 r en))
    by (Refused x p) q b r = let z : ◌≡◌ {A = ℕ} 0 1 = cc in absurd (omega arith)

-- and of a refused one
pub table_refused : (o : Outcome) (n p : ℕ) → Err (refusal n p) ≡ plan_of o 4096 → table_report o ≡ refusal_text n p
unfolding plan_of table_report
table_refused (Not x y) n p e = let q = same_refusal e in rw (q.0, q.1)
table_refused (Read S) n p e = by (verdict (plan_checks S 4096)) e
  where
    by : (v : Verdict) → Err (refusal n p) ≡ plan_by v (traffic_of S) → table_by v (traffic_of S) ≡ refusal_text n p
    by Passed b = let z : ◌≡◌ {A = ℕ} 0 1 = cc in absurd (omega arith)
    by (Refused x y) b = let q = same_refusal b in rw (q.0, q.1)
