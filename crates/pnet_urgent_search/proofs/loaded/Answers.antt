use native.Mathlib.Omega.{arith}
use Rattle.pnet_urgent_search.proofs.Loads.{load_none, load_more}
use Rattle.pnet_urgent_search.proofs.loaded.Goals as goal

pub loop-j-init : goal.loop-j-init
loop-j-init c = (load_none c.args.turn c.args.spacings.now, omega arith)

pub returns-then-taken-ge-WHOLE : goal.returns-then-taken-ge-WHOLE
returns-then-taken-ge-WHOLE c =
    let a = c.args in
    record { to = omega arith; below = omega arith; full = λ _. omega (arith, load_more a.turn a.spacings.now c.loop-j.j) }

pub loop-j-preserved : goal.loop-j-preserved
loop-j-preserved c =
    let a = c.args in
    (omega (arith, load_more a.turn a.spacings.now c.loop-j.j), c.if-taken-ge-WHOLE.false)
