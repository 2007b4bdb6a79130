-- `capture_ages::kept_lead` meets its contract.
use Rattle.std.proofs.Common.{sym, refl, ◌∙◌, arith, ltb-false}
use Rattle.capture_ages.specs.Ages.{kept_lead}
use Rattle.capture_ages.proofs.kept_lead.Goals as goal

pub returns-then-too_soon : goal.returns-then-too_soon
unfolding kept_lead
returns-then-too_soon c = rw (sym c.too_soon.ensures ∙ c.if-too_soon.true) refl

pub overflow_cast-result : goal.overflow_cast-result
overflow_cast-result c =
    let a = c.args in
    omega (arith, ltb-false a.jitter a.lead (sym c.too_soon.ensures ∙ c.if-too_soon.false))

pub returns : goal.returns
unfolding kept_lead
returns c = rw (sym c.too_soon.ensures ∙ c.if-too_soon.false) refl
