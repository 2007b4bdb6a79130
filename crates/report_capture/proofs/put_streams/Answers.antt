use native.Mathlib.Omega.{arith}
use Rattle.text.specs.Text.{item, texts}
use Rattle.text.proofs.Writing.{length_wrote, wrote_none, wrote_next, wrote_all}
use Rattle.report_capture.specs.Shown.{stream_at}
use Rattle.report_capture.proofs.Lengths.{lines_more, lines_all}
use Rattle.report_capture.proofs.put_streams.Goals as goal

pub loop-i-init : goal.loop-i-init
unfolding texts
loop-i-init c = (wrote_none, omega arith)

pub loop-i-preserved : goal.loop-i-preserved
unfolding stream_at
loop-i-preserved c =
    let a = c.args in
    let lines = stream_at (item a.masters.now) (item a.bound.now) (item a.largest.now) (item a.answers.now) (item a.above.now) (item a.left.now) in
    let inv = c.loop-i.invariant in
    let one = c.put_stream-next.ensures in
    (wrote_next lines inv.0 one.0, lines_more lines _ inv.1 one.1)

pub shape_of-out : goal.shape_of-out
shape_of-out c = length_wrote c.loop-i.invariant.0

pub returns : goal.returns
returns c =
    let a = c.args in
    let lines = stream_at (item a.masters.now) (item a.bound.now) (item a.largest.now) (item a.answers.now) (item a.above.now) (item a.left.now) in
    let inv = c.loop-i.invariant in
    (wrote_all lines inv.0 (omega arith), lines_all lines _ _ inv.1 (omega arith))
