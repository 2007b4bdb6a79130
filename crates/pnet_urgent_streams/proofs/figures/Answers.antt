-- `pnet_urgent_streams::figures` meets its contract: the reading's own refusals, then 3, then 13, and what `figures_of` says.
use mathlib.Core.Path.{sym, ◌∙◌}
use Rattle.std.proofs.lemmas.Result.{err_from_is_err_and}
use Rattle.sheet_read.proofs.Taken.{taken_ready}
use Rattle.pnet_plan.proofs.Bytes.{streams_few}
use Rattle.pnet_urgent_rules.specs.Planned.{urgently}
use Rattle.pnet_urgent_rules.proofs.Cases.{answer_taken, answer_refused, taken_other, taken_short}
use Rattle.pnet_urgent_streams.proofs.Outcomes.{figured_refused, figured_alike, rooms_alike}
use Rattle.pnet_urgent_streams.proofs.figures.Goals as goal

pub returns-then-bus_of-ne1 : goal.returns-then-bus_of-ne1
returns-then-bus_of-ne1 c =
    let a = c.args in
    let x = c.in_ok-sheet in
    let f = figured_refused (urgently a.s.now a.room) 3 0 (taken_other (answer_taken a.s.now c.read.ensures x.was) a.room (λ k. c.if-bus_of-ne1.true (c.bus_of.ensures ∙ k))) a.masters.now a.figure.now a.spacing.now a.jitter.now in
    record { value = f.0; masters_after = f.1; figure_after = f.2; spacing_after = f.3; jitter_after = f.4 }

pub returns-then-room-streams : goal.returns-then-room-streams
returns-then-room-streams c =
    let a = c.args in
    let x = c.in_ok-sheet in
    let f = figured_refused (urgently a.s.now a.room) 13 x.sheet.streams (taken_short (answer_taken a.s.now c.read.ensures x.was) a.room (sym c.bus_of.ensures ∙ c.if-bus_of-ne1.false) c.if-room-streams.true) a.masters.now a.figure.now a.spacing.now a.jitter.now in
    record { value = f.0; masters_after = f.1; figure_after = f.2; spacing_after = f.3; jitter_after = f.4 }

pub figures_of-requires : goal.figures_of-requires
figures_of-requires c =
    let a = c.args in
    let x = c.in_ok-sheet in
    taken_ready (answer_taken a.s.now c.read.ensures x.was) (sym c.bus_of.ensures ∙ c.if-bus_of-ne1.false)

pub returns-in_err-sheet : goal.returns-in_err-sheet
returns-in_err-sheet c =
    let a = c.args in
    let x = c.in_err-sheet in
    let p = err_from_is_err_and c.from_residual.result c.from_residual.ensures.1 in
    let f = figured_refused (urgently a.s.now a.room) x.field-0.0.no x.field-0.0.place (answer_refused a.s.now c.read.ensures x.was a.room) a.masters.now a.figure.now a.spacing.now a.jitter.now in
    record { value = rw (p.1, p.2) f.0; masters_after = f.1; figure_after = f.2; spacing_after = f.3; jitter_after = f.4 }

pub returns : goal.returns
returns c =
    let a = c.args in
    let x = c.in_ok-sheet in
    let ready = taken_ready (answer_taken a.s.now c.read.ensures x.was) (sym c.bus_of.ensures ∙ c.if-bus_of-ne1.false) in
    let f =
    figured_alike (urgently a.s.now 800) (urgently a.s.now a.room) (rooms_alike ready 800 a.room (streams_few ready) c.if-room-streams.false) a.masters.now a.figure.now a.spacing.now a.jitter.now
    c.figures_of.ensures in
    record { value = f.0; masters_after = f.1; figure_after = f.2; spacing_after = f.3; jitter_after = f.4 }
