-- `planner_complaints::place::cell_at` goes from comma to comma. Assumes nothing.
use Rattle.std.proofs.Common.{◌-◌, ◌≤◌}
use Rattle.planner_complaints.proofs.place.cell_at.Given as goal

abbrev pub invariant-loop-start : goal.invariant-loop-start
invariant-loop-start l = l.number ≤ l.start

abbrev pub decreases-loop-start : goal.decreases-loop-start
decreases-loop-start l = l.at - l.start
