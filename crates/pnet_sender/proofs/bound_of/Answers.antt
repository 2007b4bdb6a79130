-- `pnet_sender::bound_of` meets its contract: the reading's own refusals, then 3, and what `bound_by` says.
use mathlib.Core.Path.{sym, ◌∙◌}
use lib.ListN.{replicate}
use Rattle.std.proofs.lemmas.Result.{err_from_is_err_and}
use Rattle.pnet_plan.proofs.Bytes.{sheeted}
use Rattle.pnet_bounds.proofs.Bounded.{answer_refused, answer_taken, taken_other}
use Rattle.pnet_sender.proofs.Sends.{sender_refused}
use Rattle.pnet_sender.proofs.bound_of.Goals as goal

pub bound_by-requires : goal.bound_by-requires
bound_by-requires c =
    let g = c.read_gathering.ensures in
    let x = c.in_ok-sheet in
    let s = c.args.s in
    let t = answer_taken s.now g.value x.was in
    sheeted t (sym c.bus_of.ensures ∙ c.if-bus_of-ne1.false) (replicate 33 0) (replicate 33 0) g.counts_after g.longests_after

pub returns-in_err-sheet : goal.returns-in_err-sheet
returns-in_err-sheet c =
    let a = c.args in
    let x = c.in_err-sheet in
    let p = err_from_is_err_and c.from_residual.result c.from_residual.ensures.1 in
    rw (p.1, p.2) (sender_refused a.s.now a.master x.field-0.0.no x.field-0.0.place (answer_refused a.s.now c.read_gathering.ensures.value x.was 800))

pub returns-then-bus_of-ne1 : goal.returns-then-bus_of-ne1
returns-then-bus_of-ne1 c =
    let a = c.args in
    let g = c.read_gathering.ensures in
    let x = c.in_ok-sheet in
    sender_refused a.s.now a.master 3 0 (taken_other (answer_taken a.s.now g.value x.was) 800 (λ k. c.if-bus_of-ne1.true (c.bus_of.ensures ∙ k)))
