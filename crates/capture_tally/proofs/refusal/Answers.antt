-- `capture_tally::refusal` meets its contract, a law of `Judged` for each answer.
use Rattle.std.proofs.Common.{◌≡◌, ◌≤◌, min, get_or, sym, ap, ◌∙◌, subst, arith}
use borrow.Author.Tests.{not-true, not-false}
use Rattle.sheet_ranges.proofs.Ranges.{within_range}
use Rattle.capture_log.specs.declared.Event.{Event}
use Rattle.capture_log.specs.Records.{event_at}
use Rattle.capture_tally.specs.Pieces.{most}
use Rattle.capture_tally.specs.Steps.{open_no, spot}
use Rattle.capture_tally.proofs.Judged.{judged_unknown, judged_cut, judged_absent, judged_open, event_read}
use Rattle.capture_tally.proofs.refusal.Goals as goal
use Rattle.capture_tally.proofs.refusal.Goals.{After-struct_known-1}

pub returns-then-not-known : goal.returns-then-not-known
returns-then-not-known c w h =
    let a = c.args in
    judged_unknown a.c.now a.at (min a.streams most) w (sym c.known.ensures ∙ not-true _ c.if-not-known.true-raw)

pub returns-then-c-at-lt-SIZE : goal.returns-then-c-at-lt-SIZE
returns-then-c-at-lt-SIZE c w h =
    let a = c.args in
    judged_cut a.c.now a.at (min a.streams most) w (sym c.known.ensures ∙ not-false _ c.if-not-known.false-raw) (omega arith)

pub returns-then-not-on_sheet : goal.returns-then-not-on_sheet
returns-then-not-on_sheet c w h =
    let x = c in
    judged_absent _ _ _ w (sym x.known.ensures ∙ not-false _ x.if-not-known.false-raw) (omega arith) _ x.event_at-e.ensures
    (sym c.on_sheet.ensures ∙ not-true _ c.if-not-on_sheet.true-raw)

-- its stream has a place
placed : (c : After-struct_known-1) → (1 ≤ c.event_at-e.result.stream) × (c.event_at-e.result.stream ≤ most)
placed c = let p = within_range 1 _ _ (sym c.on_sheet.ensures ∙ not-false _ c.if-not-on_sheet.false-raw) in (p.least, omega (arith, p.most))

pub overflow_sub-k : goal.overflow_sub-k
overflow_sub-k c = (placed (goal.at.overflow_sub-k c).After-struct_known-1).0

pub bounds-left-k : goal.bounds-left-k
bounds-left-k c = omega (arith, placed (goal.at.bounds-left-k c).After-struct_known-1, c.requires.1)

pub returns : goal.returns
returns c w h =
    let x = c in
    let a = x.args in
    let known = sym x.known.ensures ∙ not-false _ x.if-not-known.false-raw in
    let right = sym c.on_sheet.ensures ∙ not-false _ c.if-not-on_sheet.false-raw in
    let is = event_read a.c.now a.at (min a.streams most) w known (omega arith) _ x.event_at-e.ensures in
    let p = within_range 1 _ _ right in
    let q : 1 ≤ (event_at a.c.now a.at).stream = subst (λ (v : Event). 1 ≤ v.stream) is p.least in
    let l : (event_at a.c.now a.at).stream ≤ most = subst (λ (v : Event). v.stream ≤ most) is (omega (arith, p.most)) in
    let same : get_or a.left.now (spot x.event_at-e.result) 0 ≡ w = ap (λ (v : Event). get_or a.left.now (spot v) 0) is ∙ sym (h q l) in
    c.open_no.ensures ∙ (ap (open_no x.event_at-e.result.kind) same
    ∙ judged_open a.c.now a.at (min a.streams most) w known (omega arith) _ x.event_at-e.ensures right)
