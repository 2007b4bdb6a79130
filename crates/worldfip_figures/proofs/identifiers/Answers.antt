-- `worldfip_figures::identifiers` meets its contract.
use mathlib.Core.Path.{◌≡◌, sym, ap, ◌∙◌}
use native.Mathlib.Omega.{arith}
use Rattle.sheet_read.proofs.Taken.{Taken, taken, not_taken, taken_ready}
use Rattle.common.proofs.Runs.{tab_places}
use Rattle.sheet_record.specs.declared.Record.{Record}
use Rattle.sheet_record.specs.Kinds.{worldfip, bus_of}
use Rattle.sheet_rules.specs.Sheets.{bus_in}
use Rattle.sheet_rules.specs.Whole.{Outcome, reading}
use Rattle.sheet_rules.specs.Ready.{sheet_in, Ready}
use Rattle.worldfip_figures.specs.Figures.{identifier_of}
use Rattle.worldfip_figures.proofs.Turns.{zero_run}
use Rattle.worldfip_figures.proofs.Tied.{few, places_within}
use Rattle.worldfip_figures.proofs.Passing.{sheeted, other_name, name_is}
use Rattle.worldfip_figures.proofs.identifiers.Goals as goal
use Rattle.worldfip_figures.proofs.identifiers.Goals.{Else-bus_of-ne5}

-- what the reader took
took : (c : Else-bus_of-ne5)
    → Taken c.args.s.now c.in-Ok.sheet.head c.in-Ok.sheet.streams c.in-Ok.sheet.first
took c =
    taken c.args.s.now c.in-Ok.sheet.head c.in-Ok.sheet.streams c.in-Ok.sheet.first
    (sym c.read.ensures ∙ c.in-Ok.is)

-- is a WorldFIP sheet
ready : (c : Else-bus_of-ne5) → Ready c.args.s.now worldfip c.in-Ok.sheet.first c.in-Ok.sheet.streams
ready c = taken_ready (took c) (sym c.bus_of.ensures ∙ c.if-bus_of-ne5.false)

-- with its E
exchange : (c : Else-bus_of-ne5) → c.in-Ok.sheet.head.a ≡ (sheet_in c.args.s.now).head.a
exchange c = ap (λ (r : Record). r.a) (took c).begins

pub returns-then-bus_of-ne5 : goal.returns-then-bus_of-ne5
returns-then-bus_of-ne5 c =
    let t =
    taken c.args.s.now c.in-Ok.sheet.head c.in-Ok.sheet.streams c.in-Ok.sheet.first
    (sym c.read.ensures ∙ c.in-Ok.is) in
    let S = sheet_in c.args.s.now in
    let other : (bus_in S ≡ worldfip → ⊥) = λ (e : bus_in S ≡ worldfip). c.if-bus_of-ne5.true (c.bus_of.ensures ∙ (ap (λ (r : Record). bus_of r.kind) t.begins ∙ e)) in
    zero_run (identifier_of (reading c.args.s.now)) (λ r. ap (λ (o : Outcome). identifier_of o r) t.reads ∙ other_name S other r)

pub gather-v-requires : goal.gather-v-requires
gather-v-requires c = ready (goal.at.gather-v-requires c).Else-bus_of-ne5

pub by_rank-places-requires : goal.by_rank-places-requires
by_rank-places-requires c =
    let p = sheeted (ready (goal.at.by_rank-places-requires c).Else-bus_of-ne5) (exchange (goal.at.by_rank-places-requires c).Else-bus_of-ne5) c.gather-v.ensures in
    (p.there, few p)

pub names_by_rank-requires : goal.names_by_rank-requires
names_by_rank-requires c =
    let g = c.gather-v.ensures in
    let p = sheeted (ready (goal.at.names_by_rank-requires c).Else-bus_of-ne5) (exchange (goal.at.names_by_rank-requires c).Else-bus_of-ne5) g in
    record { n_bound = (few p, omega (arith, few p, g.names_long)); within = places_within p c.by_rank-places.ensures }

pub returns-in_default : goal.returns-in_default
unfolding identifier_of
returns-in_default c =
    let s = c.args.s.now in
    let r = c.in_default.field-0 in
    let e = not_taken s r.no r.place (sym c.read.ensures ∙ c.in_default.is) in
    zero_run (identifier_of (reading s)) (λ k. ap (λ (o : Outcome). identifier_of o k) e)

pub returns : goal.returns
returns c =
    let q = c.names_by_rank.ensures in
    let at = (goal.at.returns c).Else-bus_of-ne5 in
    let is = name_is (ready at) (exchange at) c.gather-v.ensures c.by_rank-places.ensures q.1 in
    tab_places (identifier_of (reading c.args.s.now)) c.names_by_rank.result 64 q.0 (λ r l. is r)
