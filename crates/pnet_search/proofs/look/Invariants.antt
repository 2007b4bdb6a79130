-- `look` meets its contract. The invariant: the first j streams ask the same in each window up to `until`, and no more than s.
use Rattle.pnet_search.proofs.Looks.{Looking}
use Rattle.pnet_search.proofs.look.Given as goal

abbrev pub invariant-loop-j : goal.invariant-loop-j
invariant-loop-j l = Looking l.pairs l.from l.window l.j l.s l.asked l.until
