-- `worldfip_plan::rows::mark` meets its contract. The invariant: the rows below k times p are done.
use mathlib.Core.Path.{◌≡◌}
use Prim.Native.Nat.{ℕ, ◌*◌, ◌≤◌}
use lib.ListN.{get_or}
use Rattle.worldfip_plan.proofs.Turns.{walked}
use Rattle.worldfip_plan.proofs.rows.mark.Given as goal

abbrev pub invariant-loop-k : goal.invariant-loop-k
invariant-loop-k l = (m : ℕ) → m ≤ l.rows → get_or l.t m 0 ≡ walked l.p l.x (l.k * l.p) m (get_or l.initial.t m 0)
