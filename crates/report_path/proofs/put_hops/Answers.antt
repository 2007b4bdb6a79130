use native.Mathlib.Omega.{arith}
use Rattle.text.specs.Text.{texts}
use Rattle.text.proofs.Writing.{length_wrote, wrote_then, wrote_none, wrote_next, wrote_all}
use Rattle.report_path.specs.Told.{hop_lines}
use Rattle.report_path.proofs.put_hops.Goals as goal

pub loop-i-init : goal.loop-i-init
unfolding texts
loop-i-init c = wrote_none

pub loop-i-preserved : goal.loop-i-preserved
unfolding hop_lines
loop-i-preserved c =
    wrote_next _ c.loop-i.invariant (wrote_then c.put_gateway-segment.ensures c.put_segment-next.ensures)

pub shape_of-out : goal.shape_of-out
shape_of-out c = length_wrote c.loop-i.invariant

pub returns : goal.returns
returns c = wrote_all _ c.loop-i.invariant (omega arith)
