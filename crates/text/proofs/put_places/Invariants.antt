-- `text::put_places` stores those of k digits that fit, the last one first. The loop's invariant: with the j digits that are left to store,
-- the run is what it is to be.
use mathlib.Core.Path.{◌≡◌}
use lib.Seq.{sets}
use Rattle.text.specs.Text.{places}
use Rattle.text.proofs.put_places.Given as goal

abbrev pub invariant-loop-j : goal.invariant-loop-j
invariant-loop-j l = sets l.out l.at (places l.j l.rest) ≡ sets l.initial.out l.at (places l.k l.n)
