-- `pnet_urgent_streams::beside` meets its contract.
use native.Mathlib.Omega.{arith}
use Rattle.pnet_bounds.specs.Bounded.{master_of}
use Rattle.pnet_urgent_streams.specs.Listed.{deadline_of}
use Rattle.pnet_urgent_streams.proofs.Outcomes.{run_read, turn_small, late_from, owner_small, counts_few, listed_is}
use Rattle.pnet_urgent_streams.proofs.beside.Goals as goal

pub late_bound-bound-requires : goal.late_bound-bound-requires
late_bound-bound-requires c =
    let p = c.requires in
    let j = c.judge-found in
    let a = c.args in
    let e = c.by_deadline.ensures.masters_after in
    record {
      le_late = (
        late_from p.0 j.result.turn j.result.late j.ensures.0 j.ensures.1 a.masters.now _ e,
        omega (arith, p.1),
        turn_small p.0 j.result.turn j.result.late j.ensures.0 j.ensures.1 a.masters.now _ e,
      );
      late_bound = (
        owner_small p.0 j.result.turn j.result.late j.ensures.0 j.ensures.1 a.masters.now _ e,
        counts_few p.0 j.result.turn j.result.late j.ensures.0 j.ensures.1 a.masters.now _ e,
      );
    }

pub returns : goal.returns
returns c =
    let p = c.requires in
    let a = c.args in
    let j = c.judge-found in
    let e = c.by_deadline.ensures in (
      listed_is p.0 j.result.turn j.result.late j.ensures.0 j.ensures.1 a.masters.now _ e.masters_after c.late_bound-bound.result c.late_bound-bound.ensures,
      run_read p.0.ready master_of a.masters.now _ e.masters_after,
      run_read p.0.ready deadline_of a.deadlines.now _ e.deadlines_after,
    )
