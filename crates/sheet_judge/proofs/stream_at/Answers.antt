-- `sheet_judge::stream_at` meets its contract: each arm has the streams of its bus.
use native.Mathlib.Omega.{arith}
use Rattle.sheet_judge.specs.Own.{as_bus}
use Rattle.sheet_judge.proofs.Own.{as_last}
use Rattle.sheet_judge.proofs.stream_at.Goals as goal

pub returns-in-1 : goal.returns-in-1
unfolding as_bus
returns-in-1 c = rw c.in-1.is c.pnet_stream_at.ensures

pub returns-in-3 : goal.returns-in-3
unfolding as_bus
returns-in-3 c = rw c.in-3.is c.ring_stream_at.ensures

pub returns-in_default : goal.returns-in_default
returns-in_default c =
    let out = c.in_default.in_default-own.rest in
    rw (as_last c.args.bus (λ e. omega (arith, out)) (λ e. omega (arith, out))) c.variable_at.ensures
