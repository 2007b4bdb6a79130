-- `sheet_judge::is_stream` meets its contract, bus by bus.
use mathlib.Core.Path.{sym}
use native.Mathlib.Omega.{arith}
use Rattle.sheet_record.proofs.Parts.{ring_streams, variables}
use Rattle.sheet_judge.specs.Own.{as_bus}
use Rattle.sheet_judge.proofs.Own.{as_last}
use Rattle.sheet_judge.proofs.is_stream.Goals as goal

pub returns-in-1 : goal.returns-in-1
unfolding as_bus
returns-in-1 c = rw c.in-1.is c.is_pnet_stream.ensures

pub returns-in-3 : goal.returns-in-3
unfolding as_bus
returns-in-3 c = rw c.in-3.is (sym (ring_streams c.args.kind))

pub returns-in_default : goal.returns-in_default
returns-in_default c =
    let out = c.in_default.in_default-own.rest in
    rw (as_last c.args.bus (λ e. omega (arith, out)) (λ e. omega (arith, out))) (sym (variables c.args.kind))
