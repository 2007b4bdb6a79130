-- `planner_io::input::read_all` reads no more than the buffer holds. The loop's invariant: `at` is within the buffer, whose length stays. Assumes nothing.
use Rattle.std.proofs.Common.{◌≡◌, ◌-◌, ◌≤◌, length}
use Rattle.planner_io.proofs.input.read_all.Given as goal

abbrev pub invariant-loop-at : goal.invariant-loop-at
invariant-loop-at l = (l.at ≤ length l.buf) × (length l.buf ≡ length l.initial.buf)

abbrev pub decreases-loop-at : goal.decreases-loop-at
decreases-loop-at l = length l.initial.buf - l.at
