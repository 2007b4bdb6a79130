use mathlib.Core.Path.{◌≡◌, ap, ◌∙◌}
use Prim.Native.Nat.{◌-◌, ◌≤◌, min}
use native.Mathlib.Omega.{arith}
use Rattle.common.specs.Sums.{upto}
use Rattle.common.proofs.Sums.{upto_none}
use Rattle.units.specs.Units.{capped}
use Rattle.pnet_turn.specs.Turn.{charged_in, turn_of}
use Rattle.pnet_turn.proofs.Charges.{floored, upto_next}
use Rattle.pnet_turn.proofs.turn_of.Goals as goal
use Rattle.pnet_turn.proofs.turn_of.Goals.{After-max-turn}

pub loop-y-init : goal.loop-y-init
loop-y-init c =
    let a = c.args in
    record { sum = upto_none (charged_in a.counts.now a.longests.now a.n a.edition); small = omega arith }

-- a charge is small
small : (c : After-max-turn) → c.max-turn.result ≤ 4294967342
small c = omega (arith, c.max-turn.ensures, c.hold_of.ensures.1, c.least_of-least.ensures.1)

pub overflow_add-turn : goal.overflow_add-turn
overflow_add-turn c = omega (arith, small (goal.at.overflow_add-turn c).After-max-turn)

pub loop-y-preserved : goal.loop-y-preserved
loop-y-preserved c =
    let a = c.args in
    let least = c.least_of-least in
    let y = c.loop-y.y in
    let one = floored a.counts.now a.longests.now a.n a.edition least.result least.ensures.0 y (omega arith) (omega (arith, c.min-top.ensures)) in
    record {
      sum = omega (arith, upto_next (charged_in a.counts.now a.longests.now a.n a.edition) y (omega arith), one, c.max-turn.ensures, c.hold_of.ensures.0);
      small = omega (arith, small (goal.at.loop-y-preserved c).After-max-turn);
    }

pub returns : goal.returns
unfolding turn_of
returns c =
    let a = c.args in
    let e : c.loop-y.y - 1 ≡ min a.n 32 = omega (arith, c.min-top.ensures) in
    c.narrow.ensures ∙ ap capped (c.loop-y.invariant.sum ∙ ap (upto (charged_in a.counts.now a.longests.now a.n a.edition)) e)
