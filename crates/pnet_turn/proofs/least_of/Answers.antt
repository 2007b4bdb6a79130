use mathlib.Core.Path.{◌≡◌, refl, ap, ◌∙◌}
use Prim.Native.Nat.{◌-◌, min}
use native.Mathlib.Omega.{arith}
use borrow.Author.Tests.{eq-eqb}
use Rattle.common.specs.Sums.{greatest}
use Rattle.pnet_turn.specs.Turn.{hold_in, largest_in}
use Rattle.pnet_turn.proofs.Charges.{greatest_next}
use Rattle.pnet_turn.proofs.least_of.Goals as goal

pub loop-y-init : goal.loop-y-init
unfolding greatest
loop-y-init c = record { largest = refl; small = omega arith }

pub loop-y-preserved : goal.loop-y-preserved
unfolding hold_in
loop-y-preserved c =
    let a = c.args in
    let h = c.hold_of.ensures in
    record {
      largest = omega (arith, greatest_next (hold_in a.counts.now a.longests.now) c.loop-y.y (omega arith), h.0, c.loop-y.invariant.largest, c.max-least.ensures);
      small = omega (arith, h.1, c.max-least.ensures);
    }

pub returns : goal.returns
unfolding largest_in
returns c =
    let a = c.args in
    let i = c.loop-y.invariant in
    let e : c.loop-y.y - 1 ≡ min a.n 32 = omega (arith, c.min-last.ensures) in
    (rw (eq-eqb a.edition 2 (omega (arith, c.if-edition-ne2.false))) (i.largest ∙ ap (greatest (hold_in a.counts.now a.longests.now)) e), i.small)
