-- `pnet_late::first_late` meets its contract. The invariant: none of the first i streams fails, and `at` is the place of the next.
use mathlib.Core.Path.{◌≡◌}
use mathlib.Core.Bool.{false}
use Prim.Native.Nat.{ℕ, ◌+◌, ◌<◌}
use Rattle.sheet_rules.specs.Ready.{stream_place}
use Rattle.pnet_rules.specs.Segment.{late}
use Rattle.pnet_plan.specs.Arrays.{segment_in}
use Rattle.pnet_late.proofs.first_late.Given as goal

abbrev pub invariant-loop-i : goal.invariant-loop-i
invariant-loop-i l = record { stands : l.at ≡ stream_place l.s l.i; in_time : (j : ℕ) → j < l.i → late (segment_in l.s) (j + 1) ≡ false }
