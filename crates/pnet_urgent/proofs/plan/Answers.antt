-- `pnet_urgent::plan` meets its contract: the reading's own refusals, then 3, then 13, and what `plan_segment` says.
use mathlib.Core.Path.{sym, ◌∙◌}
use mathlib.Core.List.{List}
use Prim.Native.Nat.{ℕ, ◌<◌}
use native.Mathlib.Omega.{arith}
use lib.ListN.{replicate}
use Rattle.std.proofs.lemmas.Result.{err_from_is_err_and}
use Rattle.pnet_plan.proofs.Bytes.{sheeted}
use Rattle.pnet_urgent_rules.proofs.Cases.{answer_taken, answer_refused, taken_other, taken_short}
use Rattle.pnet_urgent.proofs.Answers.{room_of, returned_refused}
use Rattle.pnet_urgent.proofs.plan.Goals as goal
use Rattle.pnet_urgent.proofs.plan.Goals.{then-places-streams-via-then-places-streams, then-places-streams-via-else-places-streams+then-figure-streams, then-places-streams-via-else-places-streams+else-figure-streams+then-rounds-streams}

pub returns-then-bus_of-ne1 : goal.returns-then-bus_of-ne1
returns-then-bus_of-ne1 c =
    let a = c.args in
    let g = c.read_gathering.ensures in
    let x = c.in_ok-sheet in
    let room = room_of a.places.now a.figure.now a.rounds.now in
    returned_refused a.s.now a.places.now a.figure.now a.rounds.now 3 0
    (taken_other (answer_taken a.s.now g.value x.was) room (λ k. c.if-bus_of-ne1.true (c.bus_of.ensures ∙ k)))

pub returns-then-places-streams : goal.returns-then-places-streams
returns-then-places-streams c =
    let a = c.args in
    let g = c.read_gathering.ensures in
    let x = c.in_ok-sheet in
    let room = room_of a.places.now a.figure.now a.rounds.now in
    let short : room < x.sheet.streams = elim c.then-places-streams.branch [
      | then-places-streams-via-then-places-streams w ↦ omega arith
      | then-places-streams-via-else-places-streams+then-figure-streams w ↦ omega arith
      | then-places-streams-via-else-places-streams+else-figure-streams+then-rounds-streams w ↦ omega arith
    ] in
    returned_refused a.s.now a.places.now a.figure.now a.rounds.now 13 x.sheet.streams
    (taken_short (answer_taken a.s.now g.value x.was) room (sym c.bus_of.ensures ∙ c.if-bus_of-ne1.false) short)

pub plan_segment-requires : goal.plan_segment-requires
plan_segment-requires c =
    let s = c.args.s.now in
    let g = c.read_gathering.ensures in
    let x = c.in_ok-sheet in
    let zeros : List ℕ = replicate 33 0 in
    record {
      sheeted = sheeted (answer_taken s g.value x.was) (sym c.bus_of.ensures ∙ c.if-bus_of-ne1.false) zeros zeros g.counts_after g.longests_after;
      n_in_bounds = (c.if-places-streams.false, c.if-figure-streams.false, c.if-rounds-streams.false);
    }

pub returns-in_err-sheet : goal.returns-in_err-sheet
returns-in_err-sheet c =
    let a = c.args in
    let x = c.in_err-sheet in
    let p = err_from_is_err_and c.from_residual.result c.from_residual.ensures.1 in
    rw (p.1, p.2)
    (returned_refused a.s.now a.places.now a.figure.now a.rounds.now x.field-0.0.no x.field-0.0.place
    (answer_refused a.s.now c.read_gathering.ensures.value x.was (room_of a.places.now a.figure.now a.rounds.now)))
