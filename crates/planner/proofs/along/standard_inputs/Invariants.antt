-- `planner::along::standard_inputs` counts no more than the sheets. Assumes nothing.
use Rattle.std.proofs.Common.{◌≤◌}
use Rattle.planner.proofs.along.standard_inputs.Given as goal

abbrev pub invariant-loop-j : goal.invariant-loop-j
invariant-loop-j l = l.found ≤ l.j
