-- `report_beside::begin` lays the capture beside the sheet, with nothing of it heard.
use mathlib.Core.Path.{refl, sym, ◌∙◌}
use native.Mathlib.Omega.{arith}
use Rattle.report_beside.specs.Whole.{none, laid}
use Rattle.report_beside.proofs.Beginning.{begun_on, begun_refused}
use Rattle.report_beside.proofs.Kept.{begins}
use Rattle.report_beside.proofs.Stored.{stored, sheet_refusal_fits}
use Rattle.report_beside.proofs.begin.Goals as goal

pub returns-in-Ok : goal.returns-in-Ok
unfolding none
returns-in-Ok c =
    let a = c.args in
    let b = c.lay.ensures in
    let f = begun_on a.urgent a.out.now (laid a.urgent a.s.now) _ _ _ (sym b.value ∙ c.in-Ok.is) c.start.ensures in
    record {
      fact = (f.0, f.1, b.masters_after, b.bound_after, b.spacing_after, b.jitter_after, refl, refl, refl, refl, refl, refl, refl);
      fact_2 = begins a.urgent a.s.now _ a.out.now _ _ _ _ _ _ f.0 f.1 b.masters_after b.bound_after b.spacing_after b.jitter_after refl;
    }

pub returns-in-Err : goal.returns-in-Err
unfolding none
returns-in-Err c =
    let a = c.args in
    let b = c.lay.ensures in
    let w = stored c.put_refusal.ensures (sheet_refusal_fits _ _) (omega arith) in
    let f = begun_refused a.urgent a.out.now (laid a.urgent a.s.now) _ _ _ _ (sym b.value ∙ c.in-Err.is) w.0 w.1 in
    record {
      fact = (f.0, f.1, b.masters_after, b.bound_after, b.spacing_after, b.jitter_after, refl, refl, refl, refl, refl, refl, refl);
      fact_2 = begins a.urgent a.s.now _ a.out.now _ _ _ _ _ _ f.0 f.1 b.masters_after b.bound_after b.spacing_after b.jitter_after refl;
    }
