-- `pnet_crossing::first_too_long` meets its contract. The invariant: no gateway before it has a time out of range.
use Rattle.pnet_crossing.specs.Cost.{is_too_long, kept}
use Rattle.pnet_crossing.proofs.Laws.{Searched}
use Rattle.pnet_crossing.proofs.first_too_long.Given as goal

abbrev pub invariant-loop-i : goal.invariant-loop-i
invariant-loop-i l = Searched (is_too_long (kept l.times)) l.i
