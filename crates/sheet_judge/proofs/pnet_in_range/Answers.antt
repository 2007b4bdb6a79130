-- `sheet_judge::pnet_in_range` meets its contract: of the two kinds of P-NET streams, each has its own ranges.
use mathlib.Core.Path.{ap, sym, ◌∙◌}
use mathlib.Core.Bool.{Bool, ◌&&◌}
use Rattle.sheet_record.specs.Kinds.{in_range}
use Rattle.sheet_record.proofs.Parts.{pnet_with_jitter, pnet_without}
use Rattle.sheet_judge.proofs.pnet_in_range.Goals as goal

pub returns-then-r-eq7 : goal.returns-then-r-eq7
returns-then-r-eq7 c =
    let a = c.args in
    c.in_range_of.ensures ∙ ap (λ (b : Bool). b && in_range a.given a.r) (sym (pnet_with_jitter a.r.kind c.if-r-eq7.true))

pub returns : goal.returns
returns c =
    let a = c.args in
    c.in_range_of-2.ensures ∙ ap (λ (b : Bool). b && in_range a.given a.r) (sym (pnet_without a.r.kind c.if-r-eq7.false))
