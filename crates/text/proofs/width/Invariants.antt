-- `text::width` counts digits. The loop's invariant: `rest` is n without its last k digits, and fewer than k do not hold n.
use mathlib.Core.Path.{◌≡◌}
use Prim.Native.Nat.{ℕ, ◌/◌, ◌^◌, ◌≤◌, ◌<◌}
use Rattle.text.proofs.width.Given as goal

abbrev pub invariant-loop-rest : goal.invariant-loop-rest
invariant-loop-rest l = (1 ≤ l.k) × (l.rest ≡ l.n / 10 ^ l.k) × ((j : ℕ) → 1 ≤ j → j < l.k → 10 ^ j ≤ l.n)

abbrev pub decreases-loop-rest : goal.decreases-loop-rest
decreases-loop-rest l = l.rest
