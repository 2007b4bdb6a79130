-- `pnet_crossing::cross` meets its contract: the refusals behind 17 in their order, and then the cost.
use native.Mathlib.Omega.{arith}
use Rattle.pnet_crossing.proofs.Checked.{time_out_of_range, deadline_out_of_range, sender_absent, late, in_time}
use Rattle.pnet_crossing.proofs.cross.Goals as goal

pub returns-then-long-gateways : goal.returns-then-long-gateways
returns-then-long-gateways c = time_out_of_range _ _ _ _ _ c.requires _ c.first_too_long-long.ensures (omega arith)

pub returns-then-deadline : goal.returns-then-deadline
returns-then-deadline c =
    let d = c in
    deadline_out_of_range _ _ _ _ _ d.requires _ d.first_too_long-long.ensures (omega arith) c.if-deadline.true

pub returns-then-without-gateways : goal.returns-then-without-gateways
returns-then-without-gateways c =
    let s = c in
    let d = s in
    sender_absent _ _ _ _ _ d.requires _ d.first_too_long-long.ensures (omega arith) s.if-deadline.false
    _ s.first_without-without.ensures (omega arith)

pub returns-then-cost-deadline : goal.returns-then-cost-deadline
returns-then-cost-deadline c =
    let s = c in
    let d = s in
    late _ _ _ _ _ d.requires _ d.first_too_long-long.ensures (omega arith) s.if-deadline.false
    _ s.first_without-without.ensures (omega arith) _ _ c.segment_step-cost.ensures.0 (omega arith) (omega arith)

pub returns : goal.returns
returns c =
    let s = c in
    let d = s in
    in_time _ _ _ _ _ d.requires _ d.first_too_long-long.ensures (omega arith) s.if-deadline.false
    _ s.first_without-without.ensures (omega arith) _ _ c.segment_step-cost.ensures.0 (omega arith) (omega arith)
