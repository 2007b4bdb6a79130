-- `report_path_lines::put_path_refusal` stores the line of a refusal.
use mathlib.Core.Path.{◌≡◌}
use mathlib.Core.List.{[], ◌++◌}
use Prim.Native.Nat.{ℕ}
use Rattle.text.specs.Text.{word, counted}
use Rattle.text.proofs.Writing.{wrote_then, counted_then}
use Rattle.report_path_lines.specs.Lines.{path_place, path_refusal}
use Rattle.report_path_lines.proofs.put_path_refusal.Goals as goal

-- the two pieces that the code stores
pieces : (n p : ℕ) → path_refusal n p ≡ counted (word "refused ") n [] ++ path_place n p
unfolding path_refusal
pieces n p = counted_then (word "refused ") n [] (path_place n p)

pub returns : goal.returns
returns c =
    rw pieces
    (wrote_then c.put_counted-next.ensures c.put_path_place.ensures)
