-- `pnet_urgent::spread` meets its contract. The invariant: what was found of the first r streams stands at their places.
use Prim.Native.Nat.{◌+◌, ◌*◌}
use Rattle.pnet_turn.specs.Turn.{at}
use Rattle.pnet_urgent.specs.Masters.{Spread}
use Rattle.pnet_urgent.proofs.spread.Given as goal

abbrev pub invariant-loop-r : goal.invariant-loop-r
invariant-loop-r l =
    Spread l.keys l.start l.r (λ k. k + 1) l.initial.places l.places
    × Spread l.keys l.start l.r (λ k. l.turn * at l.slots k) l.initial.figures l.figures
    × Spread l.keys l.start l.r (at l.turns) l.initial.rounds l.rounds
