-- `report_beside::refuse_capture` stores the refusal of a capture, its place counted from the capture's start.
use Prim.Native.Nat.{◌+◌}
use native.Mathlib.Omega.{arith}
use Rattle.report_beside.proofs.Stored.{stored, capture_refusal_fits}
use Rattle.report_beside.proofs.refuse_capture.Goals as goal

pub returns : goal.returns
returns c =
    let a = c.args in
    stored c.put_capture_refusal.ensures (capture_refusal_fits a.refusal.no (a.before + a.refusal.place)) (omega arith)
