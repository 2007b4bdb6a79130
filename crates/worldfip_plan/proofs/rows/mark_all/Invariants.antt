-- `worldfip_plan::rows::mark_all` meets its contract. The invariant: with the group still to be marked, each row has the requests of the ranks below r;
-- the group has the period of rank r, and is empty at the end.
use mathlib.Core.Path.{◌≡◌}
use Prim.Native.Nat.{ℕ, ◌≤◌}
use lib.ListN.{length, get_or}
use Rattle.worldfip_plan.specs.Held.{requests}
use Rattle.worldfip_plan.proofs.Turns.{marked}
use Rattle.worldfip_plan.proofs.rows.mark_all.Given as goal

abbrev pub invariant-loop-r : goal.invariant-loop-r
invariant-loop-r l =
    (length l.t ≡ length l.initial.t) × (get_or l.q l.r 0 ≡ 0 → l.group ≡ 0) × ((m : ℕ) → m ≤ l.rows → marked l.q m l.r l.group (get_or l.t m 0) ≡ requests l.q l.r m)
