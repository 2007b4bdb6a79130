-- `search` meets its contract. The invariant: w is the value numbered `rounds`, and the sequence moved at every value before; it can do so at most
-- 1 + (n - 1)·s times, which is the measure. What is kept of each master is right from w on.
use Prim.Native.Nat.{◌+◌, ◌-◌, ◌*◌}
use Rattle.pnet_rules.proofs.Sequence.{Moving}
use Rattle.pnet_turn.specs.Turn.{at}
use Rattle.pnet_search.specs.Arrays.{right_in, Fresh}
use Rattle.pnet_search.proofs.search.Given as goal

abbrev pub invariant-loop-w : goal.invariant-loop-w
invariant-loop-w l =
    Moving 0 (right_in l.counts l.charges l.ends l.pairs l.n l.k) l.rounds l.w × Fresh l.counts l.charges l.ends l.pairs l.n l.turn l.k l.w l.saved l.until

abbrev pub decreases-loop-w : goal.decreases-loop-w
decreases-loop-w l =
    2 + (l.n - 1) * at l.counts l.k - l.rounds
