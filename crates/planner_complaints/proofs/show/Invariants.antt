-- `planner_complaints::show` goes over a name byte by byte. Assumes nothing.
use Rattle.std.proofs.Common.{◌≡◌, length}
use Rattle.planner_complaints.proofs.show.Given as goal

abbrev pub invariant-loop-byte : goal.invariant-loop-byte
invariant-loop-byte l = length l.out ≡ 16384
