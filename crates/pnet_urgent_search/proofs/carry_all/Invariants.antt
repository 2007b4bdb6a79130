-- `carry_all` meets its contract. The invariant: the first i walks are carried through the block, and the others are as they were.
use lib.ListN.{length}
use Rattle.pnet_urgent_search.specs.Steps.{Carried}
use Rattle.pnet_urgent_search.proofs.carry_all.Given as goal

abbrev pub invariant-loop-i : goal.invariant-loop-i
invariant-loop-i l =
    Carried l.turn l.deadlines (length l.deadlines) l.table l.a l.i l.initial.slots l.initial.rounds l.slots l.rounds l.last
