-- `plan` meets its contract: the reading's own refusals, then 3, then 13, and what `plan_segment` says, with room for the sheet's pairs.
use Prim.Native.Nat.{ℕ, ◌≤◌}
use Rattle.std.proofs.lemmas.Result.{err_from_is_err_and}
use mathlib.Core.Path.{sym, ap, ◌∙◌}
use mathlib.Core.List.{List}
use mathlib.Core.Logic.{⊎_elim}
use native.Mathlib.Omega.{arith}
use borrow.Author.Tests.{ltb-true, ltb-false}
use lib.ListN.{length, replicate}
use Rattle.sheet_record.specs.declared.Record.{Record}
use Rattle.sheet_record.specs.Kinds.{bus_of}
use Rattle.sheet_rules.specs.Ready.{sheet_in}
use Rattle.sheet_read.proofs.Taken.{Taken, taken, not_taken}
use Rattle.pnet_plan.proofs.Bytes.{sheeted, streams_few}
use Rattle.pnet_plan.proofs.Cases.{planned_unread, planned_other, planned_short, returned_refused}
use Rattle.pnet_plan.proofs.plan.Goals as goal
use Rattle.pnet_plan.proofs.plan.Goals.{In_ok-sheet}

-- what the reader is lent
abbrev zeros : List ℕ
zeros = replicate 33 0

-- what the reader took
took : (c : In_ok-sheet)
    → Taken c.args.s.now c.in_ok-sheet.sheet.head c.in_ok-sheet.sheet.streams c.in_ok-sheet.sheet.first
took c =
    let x = c.in_ok-sheet.sheet in
    taken c.args.s.now x.head x.streams x.first (sym c.read_gathering.ensures.value ∙ c.in_ok-sheet.was)

pub returns-then-bus_of-ne1 : goal.returns-then-bus_of-ne1
returns-then-bus_of-ne1 c =
    let a = c.args in
    let t = took (goal.at.returns-then-bus_of-ne1 c).In_ok-sheet in
    let o = planned_other a.s.now (length a.bound.now) (length a.refined.now) (length a.rounds.now) (sheet_in a.s.now) t.reads (λ k. c.if-bus_of-ne1.true (c.bus_of.ensures ∙ (ap (λ (r : Record). bus_of r.kind) t.begins ∙ k))) in
    returned_refused a.s.now a.bound.now a.refined.now a.rounds.now 3 0 o

pub returns-then-bound-n : goal.returns-then-bound-n
returns-then-bound-n c =
    let a = c.args in
    let x = c.in_ok-sheet.sheet in
    let t = took (goal.at.returns-then-bound-n c).In_ok-sheet in
    let bus = ap (λ (r : Record). bus_of r.kind) (sym t.begins) ∙ (sym c.bus_of.ensures ∙ c.if-bus_of-ne1.false) in
    let short : (x.head.a ≤ length a.bound.now → x.head.a ≤ length a.refined.now → x.head.a ≤ length a.rounds.now → ⊥) =
    λ l m r.
    elim c.then-bound-n.branch [
      | goal.then-bound-n-via-then-bound-n w ↦ omega arith
      | goal.then-bound-n-via-else-bound-n+then-refined-n w ↦ omega arith
      | goal.then-bound-n-via-else-bound-n+else-refined-n+then-rounds-n w ↦ omega arith
    ] in
    let o = planned_short a.s.now (length a.bound.now) (length a.refined.now) (length a.rounds.now) (sheet_in a.s.now) t.reads bus x.head.a (ap (λ (r : Record). r.a) t.begins) short in
    returned_refused a.s.now a.bound.now a.refined.now a.rounds.now 13 x.head.a o

pub plan_segment-requires : goal.plan_segment-requires
plan_segment-requires c =
    let t = took (goal.at.plan_segment-requires c).In_ok-sheet in
    let g = c.read_gathering.ensures in
    let h = sheeted t (sym c.bus_of.ensures ∙ c.if-bus_of-ne1.false) zeros zeros g.counts_after g.longests_after in
    record {
      sheeted = (h, omega (arith, c.if-streams-le-FEW.true));
      n_in_bounds = (c.if-bound-n.false, omega arith, omega arith);
    }

pub plan_segment-requires-2 : goal.plan_segment-requires-2
plan_segment-requires-2 c =
    let t = took (goal.at.plan_segment-requires-2 c).In_ok-sheet in
    let g = c.read_gathering.ensures in
    let h = sheeted t (sym c.bus_of.ensures ∙ c.if-bus_of-ne1.false) zeros zeros g.counts_after g.longests_after in
    record {
      sheeted = (h, omega (arith, streams_few h.ready));
      n_in_bounds = (c.if-bound-n.false, omega arith, omega arith);
    }

pub returns-in_err-sheet : goal.returns-in_err-sheet
returns-in_err-sheet c =
    let a = c.args in
    let x = c.in_err-sheet.field-0.0 in
    let p = err_from_is_err_and c.from_residual.result c.from_residual.ensures.1 in
    let o = planned_unread a.s.now (length a.bound.now) (length a.refined.now) (length a.rounds.now) x.no x.place (not_taken a.s.now x.no x.place (sym c.read_gathering.ensures.value ∙ c.in_err-sheet.was)) in
    rw (p.1, p.2) (returned_refused a.s.now a.bound.now a.refined.now a.rounds.now x.no x.place o)
