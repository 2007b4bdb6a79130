-- `capture_tally::take_each` meets its contract. The invariant: the records before the place are taken, and none of them is refused.
use Rattle.std.proofs.Common.{◌-◌, min, length}
use Rattle.capture_tally.specs.Pieces.{most}
use Rattle.capture_tally.proofs.Hearing.{kept, Hearing}
use Rattle.capture_tally.proofs.take_each.Given as goal

abbrev pub invariant-loop-at : goal.invariant-loop-at
invariant-loop-at l =
    Hearing l.piece (min l.streams most) l.bound (kept l.initial.left l.initial.since l.initial.answers l.initial.largest l.initial.above) (kept l.left l.since l.answers l.largest l.above) l.at

abbrev pub decreases-loop-at : goal.decreases-loop-at
decreases-loop-at l =
    length l.piece - l.at
