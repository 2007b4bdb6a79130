-- `worldfip_figures::figures_of` meets its contract: what the reader took is the sheet's traffic, and what it refused stays refused.
use mathlib.Core.Path.{◌≡◌, sym, ap, ◌∙◌}
use Rattle.std.proofs.lemmas.Result.{err_from_is_err_and}
use Rattle.sheet_read.proofs.Taken.{Taken, taken, not_taken, taken_ready}
use Rattle.sheet_record.specs.declared.Record.{Record}
use Rattle.sheet_record.specs.Kinds.{worldfip, bus_of}
use Rattle.sheet_rules.specs.Sheets.{bus_in}
use Rattle.sheet_rules.specs.Ready.{sheet_in, Ready}
use Rattle.worldfip_figures.specs.Figures.{figures_of}
use Rattle.worldfip_figures.proofs.Passing.{sheeted, figures_are, other_bus}
use Rattle.worldfip_figures.proofs.figures_of.Goals as goal
use Rattle.worldfip_figures.proofs.figures_of.Goals.{Else-bus_of-ne5}

-- what the reader took
took : (c : Else-bus_of-ne5)
    → Taken c.args.s.now c.in_ok-sheet.sheet.head c.in_ok-sheet.sheet.streams c.in_ok-sheet.sheet.first
took c =
    taken c.args.s.now c.in_ok-sheet.sheet.head c.in_ok-sheet.sheet.streams c.in_ok-sheet.sheet.first
    (sym c.read.ensures ∙ c.in_ok-sheet.was)

-- is a WorldFIP sheet
ready : (c : Else-bus_of-ne5) → Ready c.args.s.now worldfip c.in_ok-sheet.sheet.first c.in_ok-sheet.sheet.streams
ready c = taken_ready (took c) (sym c.bus_of.ensures ∙ c.if-bus_of-ne5.false)

-- with its E
exchange : (c : Else-bus_of-ne5) → c.in_ok-sheet.sheet.head.a ≡ (sheet_in c.args.s.now).head.a
exchange c = ap (λ (r : Record). r.a) (took c).begins

pub returns-then-bus_of-ne5 : goal.returns-then-bus_of-ne5
returns-then-bus_of-ne5 c =
    let t =
    taken c.args.s.now c.in_ok-sheet.sheet.head c.in_ok-sheet.sheet.streams c.in_ok-sheet.sheet.first
    (sym c.read.ensures ∙ c.in_ok-sheet.was) in
    let S = sheet_in c.args.s.now in
    let other : (bus_in S ≡ worldfip → ⊥) = λ (e : bus_in S ≡ worldfip). c.if-bus_of-ne5.true (c.bus_of.ensures ∙ (ap (λ (r : Record). bus_of r.kind) t.begins ∙ e)) in
    sym (ap figures_of t.reads ∙ other_bus S other)

pub gather-v-requires : goal.gather-v-requires
gather-v-requires c = ready (goal.at.gather-v-requires c).Else-bus_of-ne5

pub measure-requires : goal.measure-requires
measure-requires c = sheeted (ready (goal.at.measure-requires c).Else-bus_of-ne5) (exchange (goal.at.measure-requires c).Else-bus_of-ne5) c.gather-v.ensures

pub returns-in_err-sheet : goal.returns-in_err-sheet
unfolding figures_of
returns-in_err-sheet c =
    let p = err_from_is_err_and c.from_residual.result c.from_residual.ensures.1 in
    let r = c.in_err-sheet.field-0.0 in
    rw (p.1, p.2) (sym (ap figures_of (not_taken c.args.s.now r.no r.place (sym c.read.ensures ∙ c.in_err-sheet.was))))

pub returns : goal.returns
returns c =
    let at = (goal.at.returns c).Else-bus_of-ne5 in
    c.measure.ensures ∙ figures_are (ready at) (exchange at) c.gather-v.ensures
