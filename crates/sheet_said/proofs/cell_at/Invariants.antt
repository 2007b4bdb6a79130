-- `sheet_said::cell_at` meets its contract. The loop's invariant: with the digits so far as one number, what is left of the line gives the cell.
use mathlib.Core.Path.{◌≡◌}
use Rattle.sheet_said.proofs.Cells.{Within}
use Rattle.sheet_said.proofs.cell_at.Given as goal

abbrev pub invariant-loop-i : goal.invariant-loop-i
invariant-loop-i l = (l.next ≡ l.i) × Within l.line l.at l.number l.i
