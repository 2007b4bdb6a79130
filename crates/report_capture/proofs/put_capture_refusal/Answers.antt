-- `report_capture::put_capture_refusal` stores the line of a refusal.
use mathlib.Core.Path.{◌≡◌}
use mathlib.Core.List.{[], ◌++◌}
use Prim.Native.Nat.{ℕ}
use Rattle.text.specs.Text.{word, counted}
use Rattle.text.proofs.Writing.{wrote_then, counted_then}
use Rattle.report_capture.specs.Shown.{capture_refusal}
use Rattle.report_capture.proofs.put_capture_refusal.Goals as goal

-- the two pieces that the code stores
pieces : (n p : ℕ) → capture_refusal n p ≡ counted (word "refused ") n (word " at capture byte ") ++ counted [] p (word "\n")
unfolding capture_refusal counted
pieces n p = counted_then (word "refused ") n (word " at capture byte ") (counted [] p (word "\n"))

pub returns : goal.returns
returns c =
    rw pieces
    (wrote_then c.put_counted-next.ensures
    c.put_counted.ensures)
