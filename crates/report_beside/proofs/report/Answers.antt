-- `report_beside::report` stores the whole report, and answers whether anything is wrong.
use mathlib.Core.Path.{refl, sym, ◌∙◌}
use mathlib.Core.Bool.{true, false}
use native.Mathlib.Omega.{arith}
use Rattle.report_beside.proofs.Stored.{stored}
use Rattle.report_beside.proofs.Reporting.{promised}
use Rattle.report_beside.proofs.report.Goals as goal

pub returns-then-is_clean : goal.returns-then-is_clean
returns-then-is_clean c =
    let a = c.args in
    let w = c.put_capture-n.ensures in
    let f = promised a.heard a.masters.now a.bound.now a.left.now a.answers.now a.largest.now a.above.now a.asked.now _ a.out.now _
    c.overdue.ensures _ true _ (sym c.if-is_clean.true ∙ c.is_clean.ensures)
    (stored w.0 w.1 (omega arith)) refl in
    record { fact = f.0; reports = f.1 }

pub returns-else-is_clean : goal.returns-else-is_clean
returns-else-is_clean c =
    let a = c.args in
    let w = c.put_capture-n.ensures in
    let f = promised a.heard a.masters.now a.bound.now a.left.now a.answers.now a.largest.now a.above.now a.asked.now _ a.out.now _
    c.overdue.ensures _ false _ (sym c.if-is_clean.false ∙ c.is_clean.ensures)
    (stored w.0 w.1 (omega arith)) refl in
    record { fact = f.0; reports = f.1 }
