-- `try_plan::try_lines` is safe and ends: i counts the bytes, and the line that it stands in began at or before it. Assumes nothing.
use Rattle.std.proofs.Common.{◌≤◌}
use Rattle.try_plan.proofs.try_lines.Given as goal

abbrev pub invariant-loop-i : goal.invariant-loop-i
invariant-loop-i l = l.start ≤ l.i
