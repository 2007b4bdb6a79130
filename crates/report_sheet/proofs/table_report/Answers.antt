-- `report_sheet::table_report` stores the report of a WorldFIP sheet.
use mathlib.Core.Path.{refl, sym, ap, ◌∙◌}
use mathlib.Core.List.{List}
use mathlib.Core.Bool.{true}
use Prim.Native.Nat.{ℕ}
use native.Mathlib.Omega.{arith}
use lib.ListN.{replicate}
use Rattle.report_sheet.specs.Whole.{table_accepts}
use Rattle.report_sheet.proofs.Stored.{reports}
use Rattle.report_sheet.proofs.Tables.{table_of_run, table_refused}
use Rattle.report_sheet.proofs.table_report.Goals as goal

-- the run before the call
abbrev zeros : List ℕ
zeros = replicate 4096 0

pub put_table-requires : goal.put_table-requires
put_table-requires c =
    let f = table_of_run _ _ _ _ _ _ zeros refl (sym c.in-Ok.is ∙ c.plan.ensures.value) c.plan.ensures.rows_after c.identifiers-names.ensures in
    omega (arith, f.0, c.plan.auto)

pub returns-in-Ok : goal.returns-in-Ok
unfolding table_accepts
returns-in-Ok c =
    let e = sym c.in-Ok.is ∙ c.plan.ensures.value in
    let f = table_of_run _ _ _ _ _ _ zeros refl e c.plan.ensures.rows_after c.identifiers-names.ensures in
    reports true (ap table_accepts e) f.1 c.put_table.ensures

pub returns-in-Err : goal.returns-in-Err
unfolding table_accepts
returns-in-Err c =
    let e = sym c.in-Err.is ∙ c.plan.ensures.value in
    rw (table_refused _ _ _ e, ← e) c.refuse.ensures
