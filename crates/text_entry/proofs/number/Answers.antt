use Prim.Native.Nat.{ℕ, ◌+◌}
use mathlib.Core.Path.{sym, ap, ◌∙◌}
use native.Mathlib.Omega.{arith}
use borrow.Author.Rules.{rules}
use lib.ListN.{get_or, drop}
use Rattle.common.proofs.Outside.{inside}
use Rattle.text_entry.proofs.Laws.{entered_behind, behind_digit, behind_other, behind_none, entered_empty, entered_some, left_more, left_none}
use Rattle.text_entry.proofs.number.Goals as goal

pub returns-then-word-eq0 : goal.returns-then-word-eq0
returns-then-word-eq0 c = sym (entered_empty _ c.if-word-eq0.true)

pub loop-digit-init : goal.loop-digit-init
loop-digit-init c = (search rules, entered_some _ c.if-word-eq0.false)

pub returns-then-digit : goal.returns-then-digit
returns-then-digit c =
    let l = c.loop-digit in
    let word = c.args.word.now in
    sym (l.invariant.1 ∙ (ap (entered_behind l.n) (left_more word l.digit-index (omega arith)) ∙ behind_other l.n (get_or word l.digit-index 0) (drop (l.digit-index + 1) word) c.if-digit.true))

pub with_digit-n-requires : goal.with_digit-n-requires
with_digit-n-requires c = inside 48 _ 57 c.if-digit.false

pub loop-digit-preserved : goal.loop-digit-preserved
loop-digit-preserved c =
    let l = c.loop-digit in
    let word = c.args.word.now in
    let rest = drop (l.digit-index + 1) word in
    let r = inside 48 (get_or word l.digit-index 0) 57 c.if-digit.false in (
      omega (arith, c.with_digit-n.ensures),
      l.invariant.1
          ∙ (ap (entered_behind l.n) (left_more word l.digit-index (omega arith))
          ∙ (behind_digit l.n (get_or word l.digit-index 0) rest r.0 r.1 ∙ ap (λ (m : ℕ). entered_behind m rest) (sym c.with_digit-n.ensures))),
    )

pub returns : goal.returns
returns c =
    let l = c.loop-digit in
    let word = c.args.word.now in
    sym (l.invariant.1 ∙ (ap (entered_behind l.n) (left_none word l.digit-index (omega arith)) ∙ behind_none l.n l.invariant.0))
