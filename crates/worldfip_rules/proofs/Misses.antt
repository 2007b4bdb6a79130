-- The earliest miss, as the definition finds it: there is none exactly if the builder accepts. Assumes nothing.
use mathlib.Core.Path.{◌≡◌}
use Prim.Native.Nat.{ℕ, suc, ◌≤◌, ◌<◌}
use native.Mathlib.Omega.{arith}
use borrow.Author.Tests.{ltb-true, ltb-false}
use Rattle.common.proofs.Firsts.{First, first_is}
use Rattle.worldfip_rules.specs.Table.{Asked}
use Rattle.worldfip_rules.specs.Build.{Order, late, miss_at, miss_row, Accepts}

module _ (A : Asked) (o : Order) where
  first_miss : First (miss_at A o) (suc A.rows) 0 (miss_row A o)
  unfolding miss_row
  first_miss = first_is (miss_at A o) (suc A.rows) 0

  -- nobody misses before it
  pub quiet_before : (m : ℕ) → m < miss_row A o → late A o m ≡ 0
  unfolding miss_at
  quiet_before m l = omega (arith, ltb-false 0 (late A o m) (first_miss.fails m (omega arith) l))

  -- somebody misses there, if it is a row or the end of the last row
  pub miss_there : miss_row A o ≤ A.rows → 0 < late A o (miss_row A o)
  unfolding miss_at
  miss_there l = ltb-true 0 (late A o (miss_row A o)) (first_miss.holds (omega arith))

  pub none_accepts : A.rows < miss_row A o → Accepts A o
  unfolding Accepts
  none_accepts l m h = quiet_before m (omega arith)
