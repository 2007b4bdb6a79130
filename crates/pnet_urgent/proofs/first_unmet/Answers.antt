-- `first_unmet` meets its contract.
use mathlib.Core.Path.{◌≡◌, ap, ◌∙◌}
use Prim.Native.Nat.{ℕ, ◌+◌}
use native.Mathlib.Omega.{arith}
use lib.ListN.{take}
use Rattle.std.proofs.Common.{rules, tests}
use Rattle.std.proofs.lemmas.Iterator.{IsFirst-from_position, YieldsList-from_slice}
use Rattle.pnet_urgent.proofs.Spreads.{first_zero}
use Rattle.pnet_urgent.proofs.first_unmet.Goals as goal

pub returns : goal.returns
returns c =
    let a = c.args in
    ap (λ (x : ℕ). x + 1) c.unwrap_or.ensures
    ∙ first_zero a.figures.now a.n (omega arith) c.position-unmet.result
    (IsFirst-from_position _ _ c.position-unmet.result (λ x. x ≡ 0) (λ x. x ≡ 0 → ⊥) c.position-unmet.ensures.ran (YieldsList-from_slice (take a.n a.figures.now) cc) (λ x q k. search (rules, tests)) (λ x q k. search (rules, tests)))
