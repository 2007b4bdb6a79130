-- `worldfip_plan::rows::build` meets its contract. The invariant at row m: what is pending, nobody missed before, the rows below m are built, and the
-- requests of the others stand.
use mathlib.Core.Path.{◌≡◌}
use mathlib.Core.Bool.{false}
use Prim.Native.Nat.{ℕ, ◌≤◌, ◌<◌}
use lib.ListN.{length, get_or}
use Rattle.worldfip_rules.specs.Build as build
use Rattle.worldfip_rules.specs.Build.{by_rank, row, miss_at}
use Rattle.worldfip_plan.specs.Held.{requests, given}
use Rattle.worldfip_plan.proofs.rows.build.Given as goal

abbrev pub invariant-loop-m : goal.invariant-loop-m
invariant-loop-m l =
    (length l.t ≡ length l.initial.t)
    × (l.pending ≡ build.pending (given l.q l.n l.s l.rows) by_rank l.m)
    × ((j : ℕ) → j < l.m → miss_at (given l.q l.n l.s l.rows) by_rank j ≡ false)
    × ((j : ℕ) → j < l.m → get_or l.t j 0 ≡ row (given l.q l.n l.s l.rows) by_rank j)
    × ((j : ℕ) → l.m ≤ j → j ≤ l.rows → get_or l.t j 0 ≡ requests l.q l.n j)
