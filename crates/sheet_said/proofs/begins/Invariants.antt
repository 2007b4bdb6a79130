-- `sheet_said::begins` meets its contract. The loop's invariant: the bytes so far are the same in both, so what is left decides.
use mathlib.Core.Path.{◌≡◌}
use lib.ListN.{drop}
use Rattle.sheet_said.specs.Said as said
use Rattle.sheet_said.proofs.begins.Given as goal

abbrev pub invariant-loop-i : goal.invariant-loop-i
invariant-loop-i l = said.begins l.word l.line ≡ said.begins (drop l.i l.word) (drop l.i l.line)
