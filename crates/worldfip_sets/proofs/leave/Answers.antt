use mathlib.Core.Path.{◌≡◌}
use Prim.Native.Nat.{◌+◌, ◌-◌}
use native.Mathlib.Omega.{arith}
use Rattle.worldfip_sets.specs.Sets.{lowest}
use Rattle.worldfip_sets.proofs.Picks.{left_none, left_all, left_turn}
use Rattle.worldfip_sets.proofs.leave.Goals as goal

pub returns-then-p-eq0 : goal.returns-then-p-eq0
returns-then-p-eq0 c = rw (c.if-p-eq0.true, left_none) at c.loop.invariant

pub shifted-p-requires : goal.shifted-p-requires
shifted-p-requires c = c.first_of.ensures.1 (omega arith)

pub loop-preserved : goal.loop-preserved
loop-preserved c =
    let l = c.loop in
    left_turn lowest (c.args.s - (l.counter + 1)) (c.args.s - l.counter) l.p c.first_of.result c.shifted-p.result _ (omega arith) (omega arith) c.first_of.ensures.0
    c.shifted-p.ensures l.invariant

pub returns : goal.returns
returns c =
    let e : c.args.s - c.loop.counter ≡ 0 = omega arith in
    rw (e, left_all) at c.loop.invariant
