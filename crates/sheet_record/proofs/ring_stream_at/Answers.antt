-- `sheet_record::ring_stream_at` meets its contract: the streams of PROFIBUS are of one kind.
use mathlib.Core.Path.{◌∙◌}
use Rattle.sheet_record.proofs.Parts.{ring_streams}
use Rattle.sheet_record.proofs.Records.{stream_kind}
use Rattle.sheet_record.proofs.ring_stream_at.Goals as goal

pub returns : goal.returns
returns c =
    let a = c.args in
    c.record_of.ensures ∙ stream_kind a.s.now a.at 3 4 (ring_streams _)
