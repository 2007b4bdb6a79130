-- `pnet_simulate::oldest` meets its contract. The loop's invariant: nothing before p waits at m.
use Prim.Native.Nat.{ℕ, ◌<◌}
use mathlib.Core.Path.{◌≡◌}
use mathlib.Core.Bool.{false}
use Rattle.pnet_simulate.specs.Simulated.{waits}
use Rattle.pnet_simulate.proofs.oldest.Given as goal

abbrev pub invariant-loop-p : goal.invariant-loop-p
invariant-loop-p l = (j : ℕ) → j < l.p → waits l.owner l.answered l.m j ≡ false
