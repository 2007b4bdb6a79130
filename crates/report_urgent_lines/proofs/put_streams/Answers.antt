use native.Mathlib.Omega.{arith}
use Rattle.text.specs.Text.{item, texts}
use Rattle.text.proofs.Writing.{length_wrote, wrote_none, wrote_next, wrote_all}
use Rattle.report_urgent_lines.specs.Lines.{stream_at}
use Rattle.report_urgent_lines.proofs.Lengths.{lines_more, lines_all}
use Rattle.report_urgent_lines.proofs.put_streams.Goals as goal

pub loop-i-init : goal.loop-i-init
unfolding texts
loop-i-init c = (wrote_none, omega arith)

pub loop-i-preserved : goal.loop-i-preserved
unfolding stream_at
loop-i-preserved c =
    let a = c.args in
    let lines = stream_at (item a.masters.now) (item a.places.now) (item a.figures.now) (item a.rounds.now) (item a.deadlines.now) in
    let inv = c.loop-i.invariant in
    let one = c.put_stream-next.ensures in
    (wrote_next lines inv.0 one.0, lines_more lines _ inv.1 one.1)

pub shape_of-out : goal.shape_of-out
shape_of-out c = length_wrote c.loop-i.invariant.0

pub returns : goal.returns
returns c =
    let a = c.args in
    let lines = stream_at (item a.masters.now) (item a.places.now) (item a.figures.now) (item a.rounds.now) (item a.deadlines.now) in
    let inv = c.loop-i.invariant in
    (wrote_all lines inv.0 (omega arith), lines_all lines _ _ inv.1 (omega arith))
