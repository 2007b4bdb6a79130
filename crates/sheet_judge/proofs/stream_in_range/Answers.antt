-- `sheet_judge::stream_in_range` meets its contract: each arm has the kinds of the streams of its bus.
use native.Mathlib.Omega.{arith}
use Rattle.sheet_record.proofs.Parts.{ring_streams, variables}
use Rattle.sheet_judge.specs.Own.{as_bus}
use Rattle.sheet_judge.proofs.Own.{as_last}
use Rattle.sheet_judge.proofs.stream_in_range.Goals as goal

pub returns-in-1 : goal.returns-in-1
unfolding as_bus
returns-in-1 c = rw c.in-1.is c.pnet_in_range.ensures

pub returns-in-3 : goal.returns-in-3
unfolding as_bus
returns-in-3 c = rw (c.in-3.is, ring_streams c.args.r.kind) c.in_range_of.ensures

pub returns-in_default : goal.returns-in_default
returns-in_default c =
    let a = c.args in
    let out = c.in_default.in_default-own.rest in
    rw (as_last a.bus (λ e. omega (arith, out)) (λ e. omega (arith, out)), variables a.r.kind) c.in_range_of-in_default.ensures
