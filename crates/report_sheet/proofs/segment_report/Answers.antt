-- `report_sheet::segment_report` stores the report of a P-NET sheet.
use mathlib.Core.Path.{sym, ap, ◌∙◌}
use mathlib.Core.List.{List}
use mathlib.Core.Bool.{true}
use Prim.Native.Nat.{ℕ}
use native.Mathlib.Omega.{arith}
use lib.ListN.{replicate}
use Rattle.report_sheet.specs.Whole.{segment_accepts}
use Rattle.report_sheet.proofs.Segments.{segment_of_runs, segment_refused}
use Rattle.report_sheet.proofs.Stored.{reports}
use Rattle.report_sheet.proofs.segment_report.Goals as goal

-- the runs before the call
abbrev zeros : List ℕ
zeros = replicate 32 0

pub put_segment-requires : goal.put_segment-requires
put_segment-requires c =
    let f = segment_of_runs c.args.s.now _ _ _ _ _ zeros zeros zeros (sym c.in-Ok.is ∙ c.plan.ensures.0) c.plan.ensures.1 c.plan.ensures.2 c.plan.ensures.3 in
    let a = c.plan.auto in
    (omega (arith, f.0, a.bound), omega (arith, f.0, a.refined), omega (arith, f.0, a.rounds))

pub returns-in-Ok : goal.returns-in-Ok
unfolding segment_accepts
returns-in-Ok c =
    let e = sym c.in-Ok.is ∙ c.plan.ensures.0 in
    let f = segment_of_runs c.args.s.now _ _ _ _ _ zeros zeros zeros e c.plan.ensures.1 c.plan.ensures.2 c.plan.ensures.3 in
    reports true (ap segment_accepts e) f.1 c.put_segment.ensures

pub returns-in-Err : goal.returns-in-Err
unfolding segment_accepts
returns-in-Err c =
    let e = sym c.in-Err.is ∙ c.plan.ensures.0 in
    rw (segment_refused _ _ _ e, ← e) c.refuse.ensures
