-- The largest response, one stream more. Assumes nothing.
use Prim.Native.Nat.{ℕ, ◌+◌, ◌-◌, max}
use mathlib.Core.Path.{◌≡◌}
use mathlib.Core.List.{List}
use native.Mathlib.Omega.{arith}
use Rattle.common.specs.Sums.{greatest}
use Rattle.common.proofs.Sums.{greatest_more}
use Rattle.pnet_simulate.specs.Simulated.{response_of}

pub largest_more : (owner answered : List ℕ) (k p longest response : ℕ) → longest ≡ greatest (λ i. response_of owner answered k (i - 1)) p
    → response ≡ response_of owner answered k p → max longest response ≡ greatest (λ i. response_of owner answered k (i - 1)) (p + 1)
largest_more owner answered k p longest response e f =
    let q : p + 1 - 1 ≡ p = omega arith in
    rw (greatest_more (λ i. response_of owner answered k (i - 1)) p, q, e, f)
