-- `report_path_lines::put_total` stores the last line: the total in both units, and the deadline.
use mathlib.Core.Path.{◌≡◌}
use mathlib.Core.List.{◌++◌, append_assoc}
use Rattle.units.specs.declared.BitPeriods.{BitPeriods}
use Rattle.text.specs.Text.{word}
use Rattle.report_phrases.specs.Phrases.{in_bp, in_both}
use Rattle.text.proofs.Writing.{wrote_then}
use Rattle.report_path_lines.specs.Lines.{total_line}
use Rattle.report_path_lines.proofs.put_total.Goals as goal

-- the two pieces that the code stores
pieces : (total deadline : BitPeriods) → total_line total deadline ≡ (word "total " ++ in_both total) ++ ((word " deadline " ++ in_bp deadline) ++ word "\n")
unfolding total_line
pieces total deadline = simp append_assoc

pub returns : goal.returns
returns c = rw pieces (wrote_then c.put_both-next.ensures c.put_end.ensures)
