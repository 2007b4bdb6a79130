-- `report_urgent_lines::put_stream` stores the line of a stream.
use native.Mathlib.Omega.{arith}
use Rattle.text.proofs.Writing.{wrote_then}
use Rattle.report_urgent_lines.specs.Lines.{stream_line}
use Rattle.report_urgent_lines.proofs.Lengths.{line_most}
use Rattle.report_urgent_lines.proofs.put_stream.Goals as goal

pub returns : goal.returns
unfolding stream_line
returns c =
    let start = c in
    let a = start.args in (
      wrote_then c.put_whose-order.ensures (wrote_then c.put_figure-rest.ensures c.put_deadline.ensures),
      line_most a.number a.master a.place a.figure a.rounds a.deadline start.requires (omega arith) (omega arith) (omega arith) (omega arith),
    )
