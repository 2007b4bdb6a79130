-- `worldfip_figures::gather` meets its contract. The invariant: the first i variables are kept, with 0 behind them, and the next stands at
-- `at`.
use mathlib.Core.Path.{◌≡◌}
use Prim.Native.Nat.{ℕ, ◌+◌}
use lib.Dec.{ltb}
use lib.ListN.{length, get_or}
use Rattle.common.specs.Sums.{when}
use Rattle.sheet_rules.specs.Ready.{sheet_in, stream_place}
use Rattle.worldfip_figures.specs.Declares.{traffic_of}
use Rattle.worldfip_figures.proofs.gather.Given as goal

abbrev pub invariant-loop-i : goal.invariant-loop-i
invariant-loop-i l =
    (length l.names ≡ 64)
    × (length l.periods ≡ 64)
    × (l.at ≡ stream_place l.s l.i)
    × ((j : ℕ) → get_or l.names j 0 ≡ when (ltb j l.i) ((traffic_of (sheet_in l.s)).variable (j + 1)).identifier)
    × ((j : ℕ) → get_or l.periods j 0 ≡ when (ltb j l.i) ((traffic_of (sheet_in l.s)).variable (j + 1)).period)
