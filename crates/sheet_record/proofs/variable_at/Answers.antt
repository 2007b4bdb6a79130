-- `sheet_record::variable_at` meets its contract: the streams of WorldFIP are of one kind.
use mathlib.Core.Path.{◌∙◌}
use Rattle.sheet_record.proofs.Parts.{variables}
use Rattle.sheet_record.proofs.Records.{stream_kind}
use Rattle.sheet_record.proofs.variable_at.Goals as goal

pub returns : goal.returns
returns c =
    let a = c.args in
    c.record_of.ensures ∙ stream_kind a.s.now a.at 5 6 (variables _)
