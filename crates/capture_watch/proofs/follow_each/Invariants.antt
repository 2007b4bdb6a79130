-- `capture_watch::follow_each` meets its contract. The invariant: the first n records are followed.
use Rattle.capture_watch.specs.Follow.{seen}
use Rattle.capture_watch.proofs.Following.{Following}
use Rattle.capture_watch.proofs.follow_each.Given as goal

abbrev pub invariant-loop-n : goal.invariant-loop-n
invariant-loop-n l = Following l.spacing l.jitter l.piece (seen l.initial.w l.initial.asked l.initial.lead) (seen l.w l.asked l.lead) l.n
