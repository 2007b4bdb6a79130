-- `sheet_line::put_cells` stores the line of a record, number by number. The loop's invariant: behind the first number, j others are stored.
use Prim.Native.Nat.{ℕ}
use mathlib.Core.List.{List}
use Rattle.text.specs.Text.{word, item, counted, texts, Wrote}
use Rattle.sheet_record.specs.declared.Record.{Record}
use Rattle.sheet_line.specs.Lines.{others}
use Rattle.sheet_line.proofs.put_cells.Given as goal

abbrev pub cell : Record → List ℕ → ℕ → List ℕ
cell r unit j = counted (word ",") (item (others r) j) unit

abbrev pub invariant-loop-j : goal.invariant-loop-j
invariant-loop-j l = Wrote l.initial.out l.initial.next (texts (cell l.r l.unit) l.j) l.out l.next
