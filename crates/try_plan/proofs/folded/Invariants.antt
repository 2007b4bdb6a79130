-- `try_plan::folded` is safe and ends: x is a remainder. Assumes nothing.
use Rattle.std.proofs.Common.{◌<◌}
use Rattle.try_plan.proofs.folded.Given as goal

abbrev pub invariant-loop-row : goal.invariant-loop-row
invariant-loop-row l = l.x < 4294967291
