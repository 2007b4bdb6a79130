-- `start` meets its contract. The invariant: the first i walks have started.
use Rattle.pnet_urgent_search.specs.Steps.{Started}
use Rattle.pnet_urgent_search.proofs.start.Given as goal

abbrev pub invariant-loop-i : goal.invariant-loop-i
invariant-loop-i l = Started l.turn l.deadlines l.walks l.i l.initial.slots l.initial.rounds l.slots l.rounds
