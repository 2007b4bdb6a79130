-- `pnet_urgent_streams::listed_of` meets its contract: a sheet that the planner accepts is the one that was read.
use native.Mathlib.Omega.{arith}
use Rattle.std.proofs.lemmas.Result.{err_from_is_err_and}
use Rattle.pnet_plan.proofs.Bytes.{streams_few}
use Rattle.pnet_urgent_streams.proofs.Outcomes.{listed_told, listed_read}
use Rattle.pnet_urgent_streams.proofs.listed_of.Goals as goal

pub beside-requires : goal.beside-requires
beside-requires c =
    let few = streams_few c.requires.ready in
    (c.requires, omega arith, omega arith)

pub returns-in_err-plan : goal.returns-in_err-plan
returns-in_err-plan c =
    let a = c.args in
    let e = c.plan.ensures in
    let p = err_from_is_err_and c.from_residual.result c.from_residual.ensures.1 in
    rw (p.1, p.2)
    (listed_told a.s.now _ (omega arith) e.0 a.masters.now a.places.now a.figure.now a.rounds.now a.deadlines.now e.1 e.2 e.3 c.in_err-plan.was)

pub returns : goal.returns
returns c =
    let a = c.args in
    let p = c.plan.ensures in
    let e = c.beside.ensures in
    listed_read a.s.now _ (omega arith) p.0 a.masters.now a.places.now a.figure.now a.rounds.now a.deadlines.now p.1 p.2 p.3 c.requires.ready c.in_ok-plan.was
    e.0 e.1 e.2
