-- `place` meets its contract. The invariant: none of the first i streams is late, they are placed, and `at` is the place of the next.
use mathlib.Core.Path.{◌≡◌}
use mathlib.Core.Bool.{false}
use Prim.Native.Nat.{ℕ, ◌+◌, ◌<◌}
use lib.ListN.{length}
use Rattle.sheet_rules.specs.Ready.{stream_place}
use Rattle.pnet_rules.specs.Segment.{late}
use Rattle.pnet_plan.specs.Arrays.{segment_in, Grouped}
use Rattle.pnet_plan.proofs.place.Given as goal

abbrev pub invariant-loop-i : goal.invariant-loop-i
invariant-loop-i l =
    record {
      stands : l.at ≡ stream_place l.s l.i;
      grouped : Grouped (segment_in l.s) l.i l.ends l.slacks l.pairs;
      in_time : (j : ℕ) → j < l.i → late (segment_in l.s) (j + 1) ≡ false;
      long : length l.pairs ≡ length l.initial.pairs;
    }
