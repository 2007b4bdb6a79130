-- How large the figures of a ring that a sheet declares can be. Assumes nothing.
use Prim.Native.Nat.{◌*◌, ◌≤◌}
use native.Mathlib.Nat.{mul-le-mul}
use native.Mathlib.Omega.{arith}
use Rattle.common.proofs.Sums.{upto_most}
use Rattle.profibus_rules.specs.Ring.{Ring, messages, Declared}

module _ (R : Ring) (declared : Declared R) where
  pub messages_most : messages R ≤ 3200000
  unfolding messages
  messages_most =
      let a : R.masters * 100000 ≤ 32 * 100000 = mul-le-mul {n₁ = R.masters} {m₁ = 100000} {n₂ = 32} {m₂ = 100000} declared.masters_in.1 (omega arith) in
      omega (arith, upto_most R.longest 100000 R.masters (λ y lo hi. (declared.longest_in y lo hi).1))
