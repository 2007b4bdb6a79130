-- `report_sheet::put_report` picks the planner by the kind of the first record.
use mathlib.Core.List.{List}
use mathlib.Core.Path.{◌≡◌, sym, ◌∙◌}
use Prim.Native.Nat.{ℕ}
use borrow.Author.Tests.{eq-eqb, ne_eqb}
use Rattle.sheet_rules.specs.Whole.{reading}
use Rattle.pnet_plan.specs.Planned.{planned, plan_of as segment_plan}
use Rattle.profibus_plan.specs.Planned.{plan_of as ring_plan}
use Rattle.worldfip_plan.specs.Answer.{plan_of as table_plan}
use Rattle.report_sheet.specs.Whole.{segment_report, segment_accepts, ring_report, ring_accepts, table_report, table_accepts, first_bus, report_of, accepts}
use Rattle.report_sheet.proofs.put_report.Goals as goal

-- ---- The report by that kind
module _ (s : List ℕ) where
  profibus : first_bus s ≡ 3 → (report_of s ≡ ring_report (ring_plan (reading s))) × (accepts s ≡ ring_accepts (ring_plan (reading s)))
  unfolding report_of accepts
  profibus e = (simp (eq-eqb (first_bus s) 3 e), simp (eq-eqb (first_bus s) 3 e))

  worldfip : (first_bus s ≡ 3 → ⊥) → first_bus s ≡ 5 → (report_of s ≡ table_report (reading s)) × (accepts s ≡ table_accepts (table_plan (reading s) 4096))
  unfolding report_of accepts
  worldfip n e = (simp (ne_eqb (first_bus s) 3 n, eq-eqb (first_bus s) 5 e), simp (ne_eqb (first_bus s) 3 n, eq-eqb (first_bus s) 5 e))

  pnet : (first_bus s ≡ 3 → ⊥) → (first_bus s ≡ 5 → ⊥)
      → (report_of s ≡ segment_report (planned s 32 32 32)) × (accepts s ≡ segment_accepts (segment_plan (planned s 32 32 32)))
  unfolding report_of accepts
  pnet n m = (simp (ne_eqb (first_bus s) 3 n, ne_eqb (first_bus s) 5 m), simp (ne_eqb (first_bus s) 3 n, ne_eqb (first_bus s) 5 m))

pub returns-then-bus-eq3 : goal.returns-then-bus-eq3
returns-then-bus-eq3 c =
    let start = c in
    let f = profibus start.args.s.now (sym start.requires ∙ c.if-bus-eq3.true) in
    rw (f.0, f.1) c.ring_report.ensures

pub returns-then-bus-eq5 : goal.returns-then-bus-eq5
returns-then-bus-eq5 c =
    let start = c in
    let f = worldfip start.args.s.now (λ e. c.if-bus-eq3.false (start.requires ∙ e)) (sym start.requires ∙ c.if-bus-eq5.true) in
    rw (f.0, f.1) c.table_report.ensures

pub returns : goal.returns
returns c =
    let start = c in
    let f = pnet start.args.s.now (λ e. c.if-bus-eq3.false (start.requires ∙ e)) (λ e. c.if-bus-eq5.false (start.requires ∙ e)) in
    rw (f.0, f.1) c.segment_report.ensures
