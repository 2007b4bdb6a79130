-- `sheet_record::record_at` meets its contract: a record of the kind that stands at the place.
use mathlib.Core.Path.{refl, ◌∙◌}
use lib.ListN.{get_or}
use Rattle.sheet_record.proofs.Records.{met_past, met_same}
use Rattle.sheet_record.proofs.record_at.Goals as goal

pub returns-then-s-at : goal.returns-then-s-at
returns-then-s-at c =
    let a = c.args in
    c.nothing_at.ensures ∙ met_past a.s.now a.at c.if-s-at.true

pub returns : goal.returns
returns c =
    let a = c.args in
    c.record_of.ensures ∙ met_same a.s.now a.at (get_or a.s.now a.at 0) refl
