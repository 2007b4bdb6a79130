-- `plan_segment` meets its contract: what is set out and placed is the segment's, so V, the first late stream and the figures are its own.
use mathlib.Core.Path.{refl}
use Prim.Native.Nat.{◌<◌}
use native.Mathlib.Omega.{arith}
use Rattle.pnet_plan.proofs.Cases.{masters_few, counts_at, counts_small, longests_small, turn_is, grouped_first, kept_all, slack_all, returned_filled, returned_late}
use Rattle.pnet_plan.proofs.plan_segment.Goals as goal

pub set_out-requires : goal.set_out-requires
set_out-requires c =
    let h = c.requires.sheeted.0 in
    record { n_bound = (masters_few h, counts_small h, longests_small h); charges_len = (refl, refl) }

pub place-late-requires : goal.place-late-requires
place-late-requires c =
    let p = c.requires.sheeted in
    let h = p.0 in
    let v = c.turn_of-turn in
    let e = c.edition-edition in
    record {
      ready = (h.ready, p.1);
      turn_value = (turn_is h e.result e.ensures v.result v.ensures, counts_at h);
      grouped = grouped_first h e.result e.ensures c.set_out.ensures c.args.pairs.now p.1;
    }

pub returns-then-late-streams : goal.returns-then-late-streams
returns-then-late-streams c =
    let p = c.requires in
    let a = c.args in
    let l = c.place-late in
    returned_late p.sheeted.0 l.result l.ensures.0 c.if-late-streams.true a.bound.now a.refined.now a.rounds.now p.n_in_bounds.0 p.n_in_bounds.1 p.n_in_bounds.2

pub fill-requires : goal.fill-requires
fill-requires c =
    let h = c.requires.sheeted.0 in
    let v = c.turn_of-turn in
    let e = c.edition-edition in
    let o = c.set_out.ensures in
    let l = c.place-late in
    let over : c.args.streams < l.result = omega (arith, c.if-late-streams.false) in
    let placed = l.ensures.1 over in
    let turn = turn_is h e.result e.ensures v.result v.ensures in
    record {
      kept = (kept_all h e.result e.ensures o v.result.0 turn placed, slack_all h e.result e.ensures o v.result.0 turn placed l.result l.ensures.0 over);
      n_in_bounds = c.requires.n_in_bounds;
    }

pub returns : goal.returns
returns c =
    let p = c.requires in
    let a = c.args in
    let v = c.turn_of-turn in
    let e = c.edition-edition in
    let o = c.set_out.ensures in
    let l = c.place-late in
    let over : a.streams < l.result = omega (arith, c.if-late-streams.false) in
    let f = c.fill.ensures in
    let turn = turn_is p.sheeted.0 e.result e.ensures v.result v.ensures in
    returned_filled p.sheeted.0 e.result e.ensures o v.result.0 turn (l.ensures.1 over) l.result l.ensures.0 over a.bound.now a.refined.now a.rounds.now p.n_in_bounds.0 p.n_in_bounds.1 p.n_in_bounds.2 _ _ _
    f.bound_after f.refined_after f.rounds_after
