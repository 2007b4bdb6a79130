-- `report_capture::put_counts` stores the three counts of a stream.
use mathlib.Core.Path.{◌≡◌, ap, ◌∙◌}
use mathlib.Core.List.{[], List, ◌++◌}
use Prim.Native.Nat.{ℕ}
use Rattle.text.specs.Text.{word, decimal, counted}
use Rattle.text.proofs.Writing.{wrote_then, counted_then}
use Rattle.report_capture.specs.Shown.{counts_text}
use Rattle.report_capture.proofs.put_counts.Goals as goal

-- the three pieces that the code stores
pieces : (answers above left : ℕ)
    → counts_text answers above left ≡ counted (word " ") answers (word " answers ") ++ (counted [] above (word " above ") ++ counted [] left (word " open\n"))
unfolding counts_text counted
pieces answers above left =
    let rest = counted [] left (word " open\n") in
    ap (λ (t : List ℕ). word " " ++ (decimal answers ++ (word " answers " ++ t))) (counted_then [] above (word " above ") rest)
    ∙ counted_then (word " ") answers (word " answers ") (counted [] above (word " above ") ++ rest)

pub returns : goal.returns
returns c =
    rw pieces
    (wrote_then c.put_counted-next.ensures
    (wrote_then c.put_counted-rest.ensures c.put_counted.ensures))
