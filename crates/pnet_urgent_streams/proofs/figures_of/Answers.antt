-- `pnet_urgent_streams::figures_of` meets its contract: a sheet that the planner accepts is the one that was read.
use native.Mathlib.Omega.{arith}
use Rattle.std.proofs.lemmas.Result.{err_from_is_err_and}
use Rattle.pnet_plan.proofs.Bytes.{streams_few}
use Rattle.pnet_urgent_streams.proofs.Outcomes.{figured_told, figured_read}
use Rattle.pnet_urgent_streams.proofs.figures_of.Goals as goal

pub by_spacing-requires : goal.by_spacing-requires
by_spacing-requires c =
    let few = streams_few c.requires in
    (c.requires, omega arith, omega arith, omega arith)

pub returns-in_err-plan : goal.returns-in_err-plan
returns-in_err-plan c =
    let a = c.args in
    let e = c.plan.ensures in
    let p = err_from_is_err_and c.from_residual.result c.from_residual.ensures.1 in
    rw (p.1, p.2) (figured_told a.s.now _ (omega arith) e.0 a.masters.now a.figure.now a.spacing.now a.jitter.now e.2 c.in_err-plan.was)

pub returns : goal.returns
returns c =
    let a = c.args in
    let p = c.plan.ensures in
    let e = c.by_spacing.ensures in
    figured_read a.s.now _ (omega arith) p.0 a.masters.now a.figure.now a.spacing.now a.jitter.now p.2 c.requires c.in_ok-plan.was
    e.masters_after e.spacing_after e.jitter_after
