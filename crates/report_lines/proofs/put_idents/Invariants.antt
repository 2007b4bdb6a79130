-- `report_lines::put_idents` stores the identifiers of a row. The loop's invariant: those of the first ranks are stored, and `rest` is the row
-- without their bits.
use mathlib.Core.Path.{◌≡◌}
use Prim.Native.Nat.{◌/◌, ◌^◌}
use Rattle.report_lines.specs.Lines.{name_at}
use Rattle.text.specs.Text.{item, texts, Wrote}
use Rattle.report_lines.proofs.put_idents.Given as goal

abbrev pub invariant-loop-name : goal.invariant-loop-name
invariant-loop-name l = (l.rest ≡ l.row / 2 ^ l.name-index) × Wrote l.initial.out l.at (texts (name_at l.row (item l.names)) l.name-index) l.out l.next
