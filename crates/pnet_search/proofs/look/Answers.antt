use Prim.Native.Nat.{◌+◌, ◌≤◌}
use native.Mathlib.Omega.{arith}
use Rattle.common.specs.Sums.{up}
use Rattle.pnet_search.specs.Arrays.{spacing_at}
use Rattle.pnet_search.proofs.Looks.{looking_none, looking_more, looking_enough}
use Rattle.pnet_search.proofs.look.Goals as goal
use Rattle.pnet_search.proofs.look.Goals.{In-loop-j}

pub loop-j-init : goal.loop-j-init
loop-j-init c =
    let a = c.args in
    looking_none a.pairs.now a.from a.window a.s 4294967295 (omega arith)

-- T of the stream looked at is at least 1
least : (c : In-loop-j) → 1 ≤ spacing_at c.args.pairs.now (c.args.from + c.loop-j.j)
least c = omega (arith, c.requires.0.less c.loop-j.j (omega arith))

pub returns-then-s-asked : goal.returns-then-s-asked
unfolding up
returns-then-s-asked c =
    let a = c.args in
    let on = c.loop-j.invariant in
    (omega arith, omega arith, λ v l h. looking_enough on a.n (omega arith) (omega arith) v l)

pub loop-j-preserved : goal.loop-j-preserved
unfolding up
loop-j-preserved c =
    looking_more c.loop-j.invariant _ (least (goal.at.loop-j-preserved c).In-loop-j) (omega arith) (omega arith)
