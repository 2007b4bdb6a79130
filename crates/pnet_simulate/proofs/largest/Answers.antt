use mathlib.Core.Path.{◌≡◌, refl}
use native.Mathlib.Omega.{arith}
use lib.ListN.{length}
use Rattle.common.specs.Sums.{greatest}
use Rattle.pnet_simulate.specs.Simulated.{largest_of}
use Rattle.pnet_simulate.proofs.Responses.{largest_more}
use Rattle.pnet_simulate.proofs.largest.Goals as goal

pub loop-p-init : goal.loop-p-init
unfolding greatest
loop-p-init c = refl

pub loop-p-preserved : goal.loop-p-preserved
loop-p-preserved c =
    let a = c.args in
    let l = c.loop-p in
    omega (arith, largest_more a.owner.now a.answered.now a.k l.p _ _ l.invariant c.response.ensures)

pub returns : goal.returns
unfolding largest_of
returns c =
    let l = c.loop-p in
    let e : l.p ≡ length c.args.owner.now = omega arith in
    rw e at l.invariant
