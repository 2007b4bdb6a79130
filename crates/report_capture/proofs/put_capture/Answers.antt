-- `report_capture::put_capture` stores the heading, the lines of the streams and the last lines.
use native.Mathlib.Omega.{arith}
use Rattle.text.proofs.Writing.{wrote_then}
use Rattle.report_capture.specs.Shown.{capture_text}
use Rattle.report_capture.proofs.Lengths.{no_capture_longer}
use Rattle.report_capture.proofs.put_capture.Goals as goal

pub returns : goal.returns
unfolding capture_text
returns c =
    let start = c in
    let lines = c.put_streams-last.ensures in
    let shown = c.shown-n.ensures in
    rw (← shown) (
      wrote_then c.put_heading-lines.ensures (wrote_then lines.0 (rw shown c.put_last.ensures)),
      no_capture_longer _ _ _ _ _ _ _ _ _ _ _ _ (omega arith) (omega arith) (omega arith) lines.1,
    )
