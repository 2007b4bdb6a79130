-- `loaded` meets its contract. The invariant: `taken` is the load of the first j streams, and less than the whole bus.
use mathlib.Core.Path.{◌≡◌}
use Prim.Native.Nat.{◌<◌}
use Rattle.pnet_urgent_search.specs.Steps.{load}
use Rattle.pnet_urgent_search.proofs.loaded.Given as goal

abbrev pub invariant-loop-j : goal.invariant-loop-j
invariant-loop-j l = (l.taken ≡ load l.turn l.spacings l.j) × (l.taken < 1099511627776)
