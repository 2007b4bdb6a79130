-- `report_urgent_lines::put_deadline` stores a deadline at the end of its line.
use mathlib.Core.Path.{◌≡◌}
use mathlib.Core.List.{◌++◌, append_assoc}
use Rattle.units.specs.declared.BitPeriods.{BitPeriods}
use Rattle.text.specs.Text.{word}
use Rattle.text.proofs.Writing.{wrote_then}
use Rattle.report_phrases.specs.Phrases.{in_bp}
use Rattle.report_urgent_lines.specs.Lines.{deadline_text}
use Rattle.report_urgent_lines.proofs.put_deadline.Goals as goal

-- the two pieces that the code stores
pieces : (deadline : BitPeriods) → deadline_text deadline ≡ (word " deadline " ++ in_bp deadline) ++ word "\n"
unfolding deadline_text
pieces deadline = simp append_assoc

pub returns : goal.returns
returns c = rw pieces (wrote_then c.put_bp-end.ensures c.put_word.ensures)
