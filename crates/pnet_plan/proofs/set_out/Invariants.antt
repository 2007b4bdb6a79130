-- `set_out` meets its contract. The invariant: the masters before y are set out, and `end` is behind their pairs.
use mathlib.Core.Path.{◌≡◌}
use Prim.Native.Nat.{◌-◌, ◌*◌, ◌≤◌}
use Rattle.common.specs.Sums.{upto}
use Rattle.pnet_turn.specs.Turn.{at, charged_in}
use Rattle.pnet_plan.specs.Arrays.{SetOut}
use Rattle.pnet_plan.proofs.set_out.Given as goal

abbrev pub invariant-loop-y : goal.invariant-loop-y
invariant-loop-y l =
    record {
      small : l.end ≤ 80 * (l.y - 1);
      behind : l.end ≡ upto (at l.counts) (l.y - 1);
      set_out : SetOut l.counts (charged_in l.counts l.longests l.n l.edition) (l.y - 1) l.charges l.ends;
    }
