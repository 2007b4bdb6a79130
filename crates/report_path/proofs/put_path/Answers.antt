-- `report_path::put_path` stores the heading, the first segment, the gateways with the segments behind them, and the last line.
use Rattle.text.proofs.Writing.{wrote_then}
use Rattle.report_path.specs.Kept.{lines_of}
use Rattle.report_path.specs.Told.{path_text}
use Rattle.report_path.proofs.put_path.Goals as goal

pub returns : goal.returns
unfolding lines_of path_text
returns c =
    wrote_then c.put_word-first.ensures
    (wrote_then c.put_segment-hops.ensures
    (wrote_then c.put_hops-last.ensures c.put_total.ensures))
