-- `report_urgent_lines::put_urgent` stores the heading, the lines of the streams and, where first-come queues refuse one, the last line.
use native.Mathlib.Omega.{arith}
use Rattle.text.proofs.Writing.{wrote_then}
use Rattle.report_urgent_lines.specs.Lines.{urgent_text}
use Rattle.report_urgent_lines.proofs.Lengths.{no_report_longer}
use Rattle.report_urgent_lines.proofs.put_urgent.Goals as goal

pub returns : goal.returns
unfolding urgent_text
returns c =
    let lines = c.put_streams-last.ensures in
    let last = c.put_first_late.ensures in
    rw (← c.shown-n.ensures) (
      wrote_then c.put_word-lines.ensures (wrote_then lines.0 last.0),
      no_report_longer _ _ _ _ _ _ _ _ (omega arith) lines.1 last.1,
    )
