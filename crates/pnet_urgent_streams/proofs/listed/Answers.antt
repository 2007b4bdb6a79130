-- `pnet_urgent_streams::listed` meets its contract: the reading's own refusals, then 3, and what `listed_of` says.
use mathlib.Core.Path.{sym, ◌∙◌}
use mathlib.Core.List.{List}
use Prim.Native.Nat.{ℕ}
use lib.ListN.{replicate}
use Rattle.std.proofs.lemmas.Result.{err_from_is_err_and}
use Rattle.pnet_plan.proofs.Bytes.{sheeted}
use Rattle.pnet_urgent_rules.specs.Planned.{urgently}
use Rattle.pnet_urgent_rules.proofs.Cases.{answer_taken, answer_refused, taken_other}
use Rattle.pnet_urgent_streams.proofs.Outcomes.{listed_refused}
use Rattle.pnet_urgent_streams.proofs.listed.Goals as goal

pub returns-then-bus_of-ne1 : goal.returns-then-bus_of-ne1
returns-then-bus_of-ne1 c =
    let a = c.args in
    let x = c.in_ok-sheet in
    listed_refused (urgently a.s.now 800) 3 0 (taken_other (answer_taken a.s.now c.read_gathering.ensures.value x.was) 800 (λ k. c.if-bus_of-ne1.true (c.bus_of.ensures ∙ k))) a.masters.now a.places.now a.figure.now a.rounds.now a.deadlines.now

pub listed_of-requires : goal.listed_of-requires
listed_of-requires c =
    let s = c.args.s.now in
    let g = c.read_gathering.ensures in
    let x = c.in_ok-sheet in
    let zeros : List ℕ = replicate 33 0 in
    sheeted (answer_taken s g.value x.was) (sym c.bus_of.ensures ∙ c.if-bus_of-ne1.false) zeros zeros g.counts_after g.longests_after

pub returns-in_err-sheet : goal.returns-in_err-sheet
returns-in_err-sheet c =
    let a = c.args in
    let x = c.in_err-sheet in
    let p = err_from_is_err_and c.from_residual.result c.from_residual.ensures.1 in
    rw (p.1, p.2)
    (listed_refused (urgently a.s.now 800) x.field-0.0.no x.field-0.0.place (answer_refused a.s.now c.read_gathering.ensures.value x.was 800) a.masters.now a.places.now a.figure.now a.rounds.now a.deadlines.now)
