-- `first_saving` meets its contract: the test is that of the definition, and the figures are small.
use mathlib.Core.Path.{refl}
use native.Mathlib.Omega.{arith}
use Rattle.pnet_turn.specs.Turn.{at}
use Rattle.pnet_search.proofs.Arrays.{saved_small, product_small}
use Rattle.pnet_search.proofs.first_saving.Goals as goal

pub returns-then-s-count : goal.returns-then-s-count
returns-then-s-count c = record { never = λ l. (refl, refl); once = λ l. absurd (omega (arith, c.if-s-count.true)) }

pub overflow_mul-bound : goal.overflow_mul-bound
overflow_mul-bound c =
    let a = c.args in
    omega (arith, product_small (at a.counts.now a.y) a.turn (omega arith) (omega arith))

pub overflow_sub-saved : goal.overflow_sub-saved
overflow_sub-saved c = omega (arith, c.if-s-count.false)

pub overflow_mul-saved : goal.overflow_mul-saved
overflow_mul-saved c =
    let a = c.args in
    omega (arith, saved_small (at a.counts.now a.k) (at a.counts.now a.y) (at a.charges.now a.y) (omega arith) (omega arith))

pub returns : goal.returns
returns c = record { never = λ l. absurd (omega (arith, c.if-s-count.false)); once = λ l. (refl, refl) }
