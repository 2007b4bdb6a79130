-- `report_path_lines::put_sheet_refusal` stores the line of a refusal and the segment that it belongs to.
use mathlib.Core.Path.{◌≡◌}
use mathlib.Core.List.{[], ◌++◌, append_assoc}
use Prim.Native.Nat.{ℕ}
use Rattle.text.specs.Text.{word, counted}
use Rattle.report_phrases.specs.Phrases.{refused_text}
use Rattle.text.proofs.Writing.{wrote_then}
use Rattle.report_path_lines.specs.Lines.{sheet_refusal}
use Rattle.report_path_lines.proofs.put_sheet_refusal.Goals as goal

-- the two pieces that the code stores
pieces : (segment n p : ℕ) → sheet_refusal segment n p ≡ (refused_text n p ++ word " of segment ") ++ counted [] segment (word "\n")
unfolding sheet_refusal counted
pieces segment n p = simp append_assoc

pub returns : goal.returns
returns c =
    rw pieces
    (wrote_then c.put_refused-next.ensures c.put_counted.ensures)
