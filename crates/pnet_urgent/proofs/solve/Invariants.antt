-- `pnet_urgent::solve` meets its contract. The invariant: the streams of the masters before y have their figures, and the runs are as long as they were.
use mathlib.Core.Path.{◌≡◌}
use Prim.Native.Nat.{◌-◌}
use lib.ListN.{length}
use Rattle.pnet_plan.specs.Arrays.{segment_in}
use Rattle.pnet_urgent.specs.Masters.{Solved}
use Rattle.pnet_urgent.proofs.solve.Given as goal

abbrev pub invariant-loop-y : goal.invariant-loop-y
invariant-loop-y l =
    Solved (segment_in l.s) (l.y - 1) l.places l.figures l.rounds × (length l.places ≡ length l.initial.places) × (length l.figures ≡ length l.initial.figures) × (length l.rounds ≡ length l.initial.rounds)
