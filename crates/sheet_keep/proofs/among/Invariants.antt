-- `sheet_keep::among` meets its contract. The loop's invariant: it tells of the first i identifiers.
use mathlib.Core.Path.{◌≡◌}
use Rattle.sheet_keep.specs.Steps as Steps
use Rattle.sheet_keep.proofs.among.Given as goal

abbrev pub invariant-loop-i : goal.invariant-loop-i
invariant-loop-i l = l.met ≡ Steps.among l.x l.i l.ids
