-- `report_path_lines::put_segment` stores the line of a segment.
use mathlib.Core.Path.{◌≡◌}
use mathlib.Core.List.{◌++◌, append_assoc}
use Prim.Native.Nat.{ℕ}
use Rattle.units.specs.declared.BitPeriods.{BitPeriods}
use Rattle.text.specs.Text.{word, counted}
use Rattle.report_phrases.specs.Phrases.{name_of, in_bp}
use Rattle.text.proofs.Writing.{wrote_then}
use Rattle.report_path_lines.specs.Lines.{segment_line}
use Rattle.report_path_lines.proofs.put_segment.Goals as goal

-- the three pieces that the code stores
pieces : (number master : ℕ) (bound : BitPeriods)
    → segment_line number master bound ≡ counted (word "segment ") number (word " ") ++ (name_of master ++ ((word " bound " ++ in_bp bound) ++ word "\n"))
unfolding segment_line counted
pieces number master bound = simp append_assoc

pub returns : goal.returns
returns c =
    rw pieces
    (wrote_then c.put_counted-name.ensures
    (wrote_then c.put_name-figure.ensures c.put_end.ensures))
