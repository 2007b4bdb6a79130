use mathlib.Core.Path.{◌≡◌, refl, sym, ap, ◌∙◌}
use Prim.Native.Nat.{ℕ, ◌+◌, ◌/◌, ◌^◌, ◌≤◌, ◌<◌}
use native.Mathlib.Omega.{arith}
use native.Mathlib.Decide.{ℕ_discrete}
use borrow.Author.Rules.{rules}
use Rattle.text.proofs.Numbers.{quotient_more, quotient_some, quotient_none, twenty_hold, width_is}
use Rattle.text.proofs.width.Goals as goal

pub loop-rest-init : goal.loop-rest-init
loop-rest-init c = (search rules, refl, λ j lo hi. absurd (omega arith))

pub overflow_add-k : goal.overflow_add-k
overflow_add-k c = omega (arith, twenty_hold _ _ c.ranges.n.fits c.loop-rest.invariant.2)

pub loop-rest-preserved : goal.loop-rest-preserved
loop-rest-preserved c =
    let n = c.args.n in
    let k = c.loop-rest.k in
    let e = c.loop-rest.invariant.1 in (
      search rules,
      ap (λ (m : ℕ). m / 10) e ∙ quotient_more 10 n k,
      λ j lo hi. below j lo hi (ℕ_discrete j k),
    )
  where
    below : (j : ℕ) → 1 ≤ j → j < c.loop-rest.k + 1 → Dec (j ≡ c.loop-rest.k) → 10 ^ j ≤ c.args.n
    below j lo hi (yes e) = rw e (quotient_some c.args.n c.loop-rest.k (rw (← c.loop-rest.invariant.1) c.loop-rest-test.true))
    below j lo hi (no e) = c.loop-rest.invariant.2 j lo (omega (arith, e))

pub returns : goal.returns
returns c =
    let z : c.loop-rest.rest ≡ 0 = omega arith in
    width_is _ _ c.ranges.n.fits c.loop-rest.invariant.0 c.loop-rest.invariant.2 (quotient_none _ _ (sym c.loop-rest.invariant.1 ∙ z))
