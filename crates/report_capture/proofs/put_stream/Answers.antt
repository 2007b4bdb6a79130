-- `report_capture::put_stream` stores the line of a stream.
use native.Mathlib.Omega.{arith}
use Rattle.text.proofs.Writing.{wrote_then}
use Rattle.report_capture.specs.Shown.{stream_line}
use Rattle.report_capture.proofs.Lengths.{line_most}
use Rattle.report_capture.proofs.put_stream.Goals as goal

pub returns : goal.returns
unfolding stream_line
returns c =
    let start = c in
    let a = start.args in (
      wrote_then c.put_whose-periods.ensures
          (wrote_then c.put_two-counts.ensures c.put_counts.ensures),
      line_most a.number a.master a.bound a.largest a.answers a.above a.left start.requires (omega arith) (omega arith) (omega arith) (omega arith) (omega arith),
    )
