-- `right_of` meets its contract. The invariant: before master y `all` is what is saved at those before it, and what is kept of each master is right from W
-- on.
use mathlib.Core.Path.{◌≡◌}
use Prim.Native.Nat.{◌-◌, ◌*◌, ◌≤◌}
use Rattle.common.specs.Sums.{upto}
use Rattle.pnet_search.specs.Arrays.{saved_in, Fresh}
use Rattle.pnet_search.proofs.right_of.Given as goal

abbrev pub invariant-loop-y : goal.invariant-loop-y
invariant-loop-y l =
    record {
      sum : l.all ≡ upto (saved_in l.counts l.charges l.ends l.pairs l.turn l.k l.w) (l.y - 1);
      small : l.all ≤ 126800 * (l.y - 1);
      fresh : Fresh l.counts l.charges l.ends l.pairs l.n l.turn l.k l.w l.saved l.until;
    }
