-- `pnet_crossing::first_without` meets its contract. The invariant: no segment before it is without a sender.
use Rattle.pnet_crossing.specs.Cost.{no_bound}
use Rattle.pnet_crossing.proofs.Laws.{Searched}
use Rattle.pnet_crossing.proofs.first_without.Given as goal

abbrev pub invariant-loop-i : goal.invariant-loop-i
invariant-loop-i l = Searched (no_bound l.bounds) l.i
