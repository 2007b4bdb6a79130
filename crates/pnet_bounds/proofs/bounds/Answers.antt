-- `pnet_bounds::bounds` meets its contract: the reading's own refusals, then 3, then 13, and what `bounds_of` says.
use mathlib.Core.Path.{sym, ◌∙◌}
use lib.ListN.{replicate}
use Rattle.std.proofs.lemmas.Result.{err_from_is_err_and}
use Rattle.pnet_plan.proofs.Bytes.{sheeted}
use Rattle.pnet_bounds.proofs.Bounded.{answer_refused, answer_taken, taken_other, taken_short, returned_refused}
use Rattle.pnet_bounds.proofs.bounds.Goals as goal

pub returns-then-bus_of-ne1 : goal.returns-then-bus_of-ne1
returns-then-bus_of-ne1 c =
    let a = c.args in
    let g = c.read_gathering.ensures in
    let x = c.in_ok-sheet in
    let r = returned_refused a.s.now a.room a.masters.now a.bound.now a.spacing.now a.jitter.now 3 0 (taken_other (answer_taken a.s.now g.value x.was) a.room (λ k. c.if-bus_of-ne1.true (c.bus_of.ensures ∙ k))) in
    record { value = r.0; masters_after = r.1.0; bound_after = r.1.1.0; spacing_after = r.1.1.1.0; jitter_after = r.1.1.1.1 }

pub returns-then-room-streams : goal.returns-then-room-streams
returns-then-room-streams c =
    let a = c.args in
    let g = c.read_gathering.ensures in
    let x = c.in_ok-sheet in
    let r = returned_refused a.s.now a.room a.masters.now a.bound.now a.spacing.now a.jitter.now 13 x.sheet.streams
    (taken_short (answer_taken a.s.now g.value x.was) a.room (sym c.bus_of.ensures ∙ c.if-bus_of-ne1.false) c.if-room-streams.true) in
    record { value = r.0; masters_after = r.1.0; bound_after = r.1.1.0; spacing_after = r.1.1.1.0; jitter_after = r.1.1.1.1 }

pub bounds_of-requires : goal.bounds_of-requires
bounds_of-requires c =
    let g = c.read_gathering.ensures in
    let x = c.in_ok-sheet in
    let s = c.args.s in
    let t = answer_taken s.now g.value x.was in
    (sheeted t (sym c.bus_of.ensures ∙ c.if-bus_of-ne1.false) (replicate 33 0) (replicate 33 0) g.counts_after g.longests_after, c.if-room-streams.false)

pub returns-in_err-sheet : goal.returns-in_err-sheet
returns-in_err-sheet c =
    let a = c.args in
    let x = c.in_err-sheet in
    let p = err_from_is_err_and c.from_residual.result c.from_residual.ensures.1 in
    let r = returned_refused a.s.now a.room a.masters.now a.bound.now a.spacing.now a.jitter.now x.field-0.0.no x.field-0.0.place
    (answer_refused a.s.now c.read_gathering.ensures.value x.was a.room) in
    record { value = rw (p.1, p.2) r.0; masters_after = r.1.0; bound_after = r.1.1.0; spacing_after = r.1.1.1.0; jitter_after = r.1.1.1.1 }
