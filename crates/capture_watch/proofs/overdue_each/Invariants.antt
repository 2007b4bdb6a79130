-- `capture_watch::overdue_each` meets its contract. The invariant: the run is filled up to stream i.
use Rattle.common.proofs.Runs.{Filling}
use Rattle.capture_watch.specs.Follow.{overdue_at}
use Rattle.capture_watch.proofs.overdue_each.Given as goal

abbrev pub invariant-loop-i : goal.invariant-loop-i
invariant-loop-i l = Filling (overdue_at l.clock l.bound l.left l.asked) l.i l.initial.late l.late
