-- `pnet_urgent_streams::late_bound` meets its contract.
use Prim.Native.Nat.{◌-◌}
use native.Mathlib.Nat.{mul-le-mul}
use native.Mathlib.Omega.{arith}
use borrow.Author.Tests.{le-leb, lt-leb}
use Rattle.pnet_turn.specs.Turn.{at}
use Rattle.pnet_urgent_streams.proofs.late_bound.Goals as goal

pub returns-then-n-late : goal.returns-then-n-late
returns-then-n-late c = rw (lt-leb c.args.late c.args.n c.if-n-late.true)

pub overflow_cast-master : goal.overflow_cast-master
overflow_cast-master c = omega (arith, c.requires.late_bound.0 (omega arith))

pub bounds-counts-master : goal.bounds-counts-master
bounds-counts-master c = omega (arith, c.requires.late_bound.0 (omega arith))

pub overflow_cast-own : goal.overflow_cast-own
overflow_cast-own c =
    let p = c.requires.late_bound in
    omega (arith, p.1 (at c.args.masters.now (c.args.late - 1)) (p.0 (omega arith)))

-- at most 80 streams
pub overflow_mul-bound : goal.overflow_mul-bound
overflow_mul-bound c =
    let a = c.args in
    let p = c.requires.late_bound in
    let own = at a.masters.now (a.late - 1) in
    omega (arith, mul-le-mul {n₁ = at a.counts.now own} {m₁ = a.turn} {n₂ = 80} {m₂ = 51040} (p.1 own (p.0 (omega arith))) c.requires.le_late.2)

pub returns : goal.returns
returns c = rw (le-leb c.args.late c.args.n (omega arith))
