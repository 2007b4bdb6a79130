-- `capture_watch::follow_one` meets its contract.
use mathlib.Core.Path.{◌≡◌, sym, ◌∙◌}
use mathlib.Core.Bool.{true}
use native.Mathlib.Omega.{arith}
use borrow.Author.Tests.{not-true, not-false}
use Rattle.sheet_ranges.specs.Ranges.{Range}
use Rattle.capture_watch.specs.Follow.{most, request}
use Rattle.capture_watch.proofs.Following.{request_placed, passed_by, asked_by}
use Rattle.capture_watch.proofs.follow_one.Goals as goal
use Rattle.capture_watch.proofs.follow_one.Goals.{After-struct_known-1}

pub returns-then-not-is_request : goal.returns-then-not-is_request
returns-then-not-is_request c =
    let h = passed_by _ _ _ _ _ _ (sym c.is_request.ensures ∙ not-true _ c.if-not-is_request.true-raw) in
    record { value = c.behind.ensures ∙ h.0; asked_after = h.1.0; lead_after = h.1.1 }

-- it is a request, whose stream has a place
is-request : (c : After-struct_known-1) → request c.args.e ≡ true
is-request c = sym c.is_request.ensures ∙ not-false _ c.if-not-is_request.false-raw

placed : (c : After-struct_known-1) → Range 1 c.args.e.stream most
placed c = request_placed _ (is-request c)

pub overflow_sub-k : goal.overflow_sub-k
overflow_sub-k c = (placed (goal.at.overflow_sub-k c).After-struct_known-1).least

pub bounds-jitter-k : goal.bounds-jitter-k
bounds-jitter-k c = omega (arith, (placed (goal.at.bounds-jitter-k c).After-struct_known-1).least, (placed (goal.at.bounds-jitter-k c).After-struct_known-1).most, c.requires.1.0)

pub bounds-spacing-k : goal.bounds-spacing-k
bounds-spacing-k c = omega (arith, (placed (goal.at.bounds-spacing-k c).After-struct_known-1).least, (placed (goal.at.bounds-spacing-k c).After-struct_known-1).most, c.requires.0)

pub bounds-asked-k : goal.bounds-asked-k
bounds-asked-k c = omega (arith, (placed (goal.at.bounds-asked-k c).After-struct_known-1).least, (placed (goal.at.bounds-asked-k c).After-struct_known-1).most, c.requires.1.1.0)

pub bounds-lead-k : goal.bounds-lead-k
bounds-lead-k c = omega (arith, (placed (goal.at.bounds-lead-k c).After-struct_known-1).least, (placed (goal.at.bounds-lead-k c).After-struct_known-1).most, c.requires.1.1.1)

pub bounds-asked-k-2 : goal.bounds-asked-k-2
bounds-asked-k-2 c = omega (arith, (placed (goal.at.bounds-asked-k-2 c).After-struct_known-1).least, (placed (goal.at.bounds-asked-k-2 c).After-struct_known-1).most, c.requires.1.1.0)

pub bounds-lead-k-2 : goal.bounds-lead-k-2
bounds-lead-k-2 c = omega (arith, (placed (goal.at.bounds-lead-k-2 c).After-struct_known-1).least, (placed (goal.at.bounds-lead-k-2 c).After-struct_known-1).most, c.requires.1.1.1)

pub returns : goal.returns
returns c =
    let h = asked_by _ _ _ _ _ _ _ _ _ _ (is-request (goal.at.returns c).After-struct_known-1) c.lead_of-new.ensures c.clock_at.ensures c.kept_lead.ensures c.too_soon.ensures in
    record { value = c.behind-2.ensures ∙ h.0; asked_after = h.1.0; lead_after = h.1.1 }
