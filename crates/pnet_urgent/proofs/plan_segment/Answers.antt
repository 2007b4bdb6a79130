-- `pnet_urgent::plan_segment` meets its contract: V by the sheet's edition is the segment's, and the first stream whose x is 0 is the first that is not accepted.
use Prim.Native.Nat.{◌<◌}
use native.Mathlib.Omega.{arith}
use Rattle.pnet_plan.proofs.Bytes.{streams_few}
use Rattle.pnet_plan.proofs.Cases.{counts_at, turn_is}
use Rattle.pnet_urgent.proofs.Answers.{returned_unmet, returned_read}
use Rattle.pnet_urgent.proofs.plan_segment.Goals as goal

pub solve-requires : goal.solve-requires
solve-requires c =
    let h = c.requires.sheeted in
    let few = streams_few h.ready in
    let v = turn_is h c.edition-edition.result c.edition-edition.ensures c.turn_of-turn.result c.turn_of-turn.ensures in
    record {
      ready = (h.ready, h.masters_are, counts_at h);
      turn_value = (v, omega arith, omega arith, omega arith);
    }

pub first_unmet-unmet-requires : goal.first_unmet-unmet-requires
first_unmet-unmet-requires c =
    let few = streams_few c.requires.sheeted.ready in
    omega arith

pub returns-then-unmet-n : goal.returns-then-unmet-n
returns-then-unmet-n c =
    let p = c.requires in
    let a = c.args in
    let u = c.first_unmet-unmet in
    returned_unmet p.sheeted a.places.now a.figure.now a.rounds.now p.n_in_bounds.0 p.n_in_bounds.1 p.n_in_bounds.2 c.solve.ensures u.result u.ensures c.if-unmet-n.true

pub copy-requires : goal.copy-requires
copy-requires c =
    let p = c.requires in
    let few = streams_few p.sheeted.ready in
    (omega arith, p.n_in_bounds.0)

pub copy-requires-2 : goal.copy-requires-2
copy-requires-2 c =
    let p = c.requires in
    let few = streams_few p.sheeted.ready in
    (omega arith, p.n_in_bounds.1)

pub copy-requires-3 : goal.copy-requires-3
copy-requires-3 c =
    let p = c.requires in
    let few = streams_few p.sheeted.ready in
    (omega arith, p.n_in_bounds.2)

pub returns : goal.returns
returns c =
    let p = c.requires in
    let a = c.args in
    let u = c.first_unmet-unmet in
    let over : a.n < u.result = omega (arith, c.if-unmet-n.false) in
    returned_read p.sheeted a.places.now a.figure.now a.rounds.now p.n_in_bounds.0 p.n_in_bounds.1 p.n_in_bounds.2 c.solve.ensures u.result u.ensures over _ _ _
    c.copy.ensures c.copy-2.ensures c.copy-3.ensures
