-- `sheet_judge::judge` meets its contract, a law of `Own` for each answer.
use mathlib.Core.Path.{◌∙◌, sym, ap}
use borrow.Author.Tests.{not-true, not-false}
use Rattle.common.specs.Checks.{unless_no}
use Rattle.sheet_judge.proofs.Own.{own_unknown, own_wrong, own_cut, own_out, own_none}
use Rattle.sheet_judge.proofs.judge.Goals as goal

pub returns-then-not-known : goal.returns-then-not-known
returns-then-not-known c = ap (λ n. unless_no n c.args.place) (own_unknown _ _ _ _ (sym c.known.ensures ∙ not-true _ c.if-not-known.true-raw))

pub returns-then-not-right : goal.returns-then-not-right
returns-then-not-right c = ap (λ n. unless_no n c.args.place) (own_wrong _ _ _ _ (sym c.known.ensures ∙ not-false _ c.if-not-known.false-raw) (not-true _ c.if-not-right.true-raw))

pub returns-then-not-whole : goal.returns-then-not-whole
returns-then-not-whole c = ap (λ n. unless_no n c.args.place) (own_cut _ _ _ _ (sym c.known.ensures ∙ not-false _ c.if-not-known.false-raw) (not-false _ c.if-not-right.false-raw) (not-true _ c.if-not-whole.true-raw))

pub returns-then-not-ranged : goal.returns-then-not-ranged
returns-then-not-ranged c = ap (λ n. unless_no n c.args.place) (own_out _ _ _ _ (sym c.known.ensures ∙ not-false _ c.if-not-known.false-raw) (not-false _ c.if-not-right.false-raw) (not-false _ c.if-not-whole.false-raw) (not-true _ c.if-not-ranged.true-raw))

pub returns : goal.returns
returns c = ap (λ n. unless_no n c.args.place) (own_none _ _ _ _ (sym c.known.ensures ∙ not-false _ c.if-not-known.false-raw) (not-false _ c.if-not-right.false-raw) (not-false _ c.if-not-whole.false-raw) (not-false _ c.if-not-ranged.false-raw))
