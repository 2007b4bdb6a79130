-- `capture_log::event_at` meets its contract.
use Rattle.std.proofs.Common.{sym, ◌∙◌, arith}
use borrow.Author.Tests.{not-true, not-false}
use Rattle.capture_log.proofs.Records.{met_cut, met_unknown, met_whole}
use Rattle.capture_log.proofs.event_at.Goals as goal

pub returns-then-c-at : goal.returns-then-c-at
returns-then-c-at c = c.nothing.ensures ∙ sym (met_cut _ _ (omega arith))

pub returns-then-c-at-lt-SIZE : goal.returns-then-c-at-lt-SIZE
returns-then-c-at-lt-SIZE c = c.nothing-then-c-at-lt-SIZE.ensures ∙ sym (met_cut _ _ (omega arith))

pub returns-then-not-known : goal.returns-then-not-known
returns-then-not-known c =
    let unknown = sym c.known.ensures ∙ not-true _ c.if-not-known.true-raw in
    c.nothing-then-not-known.ensures ∙ sym (met_unknown _ _ unknown)

pub returns : goal.returns
returns c =
    let right = sym c.known.ensures ∙ not-false _ c.if-not-known.false-raw in
    c.whole_at.ensures ∙ sym (met_whole _ _ (omega arith) right)
