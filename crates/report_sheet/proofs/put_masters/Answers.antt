use native.Mathlib.Omega.{arith}
use Rattle.text.specs.Text.{item, texts}
use Rattle.report_sheet.specs.Arrays.{master_at}
use Rattle.text.proofs.Writing.{length_wrote, wrote_none, wrote_next, wrote_all}
use Rattle.report_sheet.proofs.put_masters.Goals as goal

pub loop-i-init : goal.loop-i-init
unfolding texts
loop-i-init c = wrote_none

pub loop-i-preserved : goal.loop-i-preserved
unfolding master_at
loop-i-preserved c =
    let start = c in
    wrote_next (master_at (item start.args.bound.now) (item start.args.refined.now) (item start.args.rounds.now)) c.loop-i.invariant c.put_master-next.ensures

pub shape_of-out : goal.shape_of-out
shape_of-out c = length_wrote c.loop-i.invariant

pub returns : goal.returns
returns c =
    let start = c in
    wrote_all (master_at (item start.args.bound.now) (item start.args.refined.now) (item start.args.rounds.now)) c.loop-i.invariant (omega arith)
