-- `walk` meets its contract. The invariant: before each block every walk is its stream's search, and what is kept of the streams laid out is due behind slot a.
use mathlib.Core.Path.{◌≡◌}
use Prim.Native.Nat.{◌-◌}
use lib.ListN.{length}
use Rattle.pnet_urgent_search.proofs.Blocks.{Passing}
use Rattle.pnet_urgent_search.proofs.walk.Given as goal

abbrev pub invariant-loop-a : goal.invariant-loop-a
invariant-loop-a l =
    (length l.nexts ≡ 80) × (length l.rests ≡ 80) × Passing l.turn l.spacings l.jitters l.deadlines (length l.spacings) l.k l.walks l.initial.slots l.initial.rounds l.a l.base l.last l.nexts l.rests l.table l.slots l.rounds

abbrev pub decreases-loop-a : goal.decreases-loop-a
decreases-loop-a l =
    20833845 - l.a
