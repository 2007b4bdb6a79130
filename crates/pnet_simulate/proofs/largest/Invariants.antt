-- `pnet_simulate::largest` meets its contract. The loop's invariant: the largest response of the streams before p.
use Prim.Native.Nat.{◌-◌}
use mathlib.Core.Path.{◌≡◌}
use Rattle.common.specs.Sums.{greatest}
use Rattle.pnet_simulate.specs.Simulated.{response_of}
use Rattle.pnet_simulate.proofs.largest.Given as goal

abbrev pub invariant-loop-p : goal.invariant-loop-p
invariant-loop-p l = l.longest ≡ greatest (λ i. response_of l.owner l.answered l.k (i - 1)) l.p
