-- `report_lines::put_row` stores the line of a row.
use mathlib.Core.List.{◌++◌}
use mathlib.Core.Path.{◌≡◌}
use Prim.Native.Nat.{ℕ}
use Rattle.text.specs.Text.{word, counted, texts}
use Rattle.report_lines.specs.Lines.{name_at, row_line}
use Rattle.text.proofs.Writing.{wrote_then, counted_then}
use Rattle.report_lines.proofs.put_row.Goals as goal

-- the three pieces that the code stores
pieces : (m row : ℕ) (names : ℕ → ℕ) → row_line m row names ≡ counted (word "row ") m (word ":") ++ (texts (name_at row names) 64 ++ word "\n")
unfolding row_line
pieces m row names = counted_then (word "row ") m (word ":") (texts (name_at row names) 64 ++ word "\n")

pub returns : goal.returns
returns c = rw pieces (wrote_then c.put_counted-idents.ensures (wrote_then c.put_idents-end.ensures c.put_word.ensures))
