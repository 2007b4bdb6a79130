-- `sheet_reader::found_at` meets its contract: each answer is a case of what a reader finds.
use mathlib.Core.Path.{sym, ◌∙◌}
use borrow.Author.Tests.{not-true, not-false}
use Rattle.sheet_reader.proofs.Cases.{found_end, found_unknown, found_cut, found_one}
use Rattle.sheet_reader.proofs.found_at.Goals as goal

pub returns-then-s-at : goal.returns-then-s-at
returns-then-s-at c = sym (found_end _ _ c.if-s-at.true)

pub returns-then-not-known : goal.returns-then-not-known
returns-then-not-known c =
    let unknown = sym c.known.ensures ∙ not-true _ c.if-not-known.true-raw in
    sym (found_unknown _ _ c.if-s-at.false unknown)

pub returns-then-met-at : goal.returns-then-met-at
returns-then-met-at c =
    let p = c in
    let right = sym p.known.ensures ∙ not-false _ p.if-not-known.false-raw in
    sym (found_cut _ _ p.if-s-at.false right _ c.record_at-met.ensures c.if-met-at.true)

pub returns : goal.returns
returns c =
    let p = c in
    let right = sym p.known.ensures ∙ not-false _ p.if-not-known.false-raw in
    sym (found_one _ _ p.if-s-at.false right _ c.record_at-met.ensures c.if-met-at.false)
