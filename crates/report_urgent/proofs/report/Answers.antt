-- `report_urgent::report` stores the whole report, and answers whether the sheet is accepted.
use mathlib.Core.Path.{sym, ◌∙◌}
use native.Mathlib.Omega.{arith}
use Rattle.report_urgent.proofs.Stored.{stored, refusal_fits, accepted_stored, refused_stored}
use Rattle.report_urgent.proofs.Told.{accepted_told, refused_told}
use Rattle.report_urgent.proofs.report.Goals as goal

pub returns-in-Ok : goal.returns-in-Ok
returns-in-Ok c =
    let a = c.args in
    let l = c.listed.ensures in
    let w = c.put_urgent.ensures in
    accepted_stored a.s.now a.out.now
    (accepted_told a.s.now _ _ _ _ _ _ _ _ _ (sym l.0 ∙ c.in-Ok.is) l.1 l.2 l.3 l.4 l.5)
    (stored w.0 w.1 (omega arith))

pub returns-in-Err : goal.returns-in-Err
returns-in-Err c =
    let a = c.args in
    let l = c.listed.ensures in
    refused_stored a.s.now a.out.now (refused_told a.s.now _ _ (sym l.0 ∙ c.in-Err.is))
    (stored c.put_refusal.ensures (refusal_fits _ _) (omega arith))
