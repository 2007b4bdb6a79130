-- `sheet_rewrite::put_ring` meets its contract. The loop's invariant is `Fronted`: behind the ring stand the longest messages of the masters before this one.
use Prim.Native.Nat.{◌-◌}
use Rattle.sheet_rewrite.proofs.Filled.{Fronted}
use Rattle.sheet_rewrite.proofs.put_ring.Given as goal

abbrev pub invariant-loop-master : goal.invariant-loop-master
invariant-loop-master l = Fronted l.ring l.initial.out l.initial.at (l.master - 1) l.out l.at
