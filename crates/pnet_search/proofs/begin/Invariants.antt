-- `begin` meets its contract. The invariant: the masters before y have what they open with.
use Rattle.pnet_search.proofs.Searching.{Opened}
use Rattle.pnet_search.proofs.begin.Given as goal

abbrev pub invariant-loop-y : goal.invariant-loop-y
invariant-loop-y l = Opened l.counts l.charges l.slacks l.turn l.k l.y l.saved l.until
