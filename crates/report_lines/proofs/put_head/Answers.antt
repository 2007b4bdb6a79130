-- `report_lines::put_head` stores the first two lines of a table.
use mathlib.Core.List.{List, ◌++◌, append_assoc}
use mathlib.Core.Path.{◌≡◌, sym, ap, ◌∙◌}
use Prim.Native.Nat.{ℕ}
use Rattle.units.specs.declared.Micros.{Micros}
use Rattle.text.specs.Text.{word, counted}
use Rattle.report_phrases.specs.Phrases.{in_us}
use Rattle.report_lines.specs.Lines.{table_head}
use Rattle.text.proofs.Writing.{wrote_then, counted_then}
use Rattle.report_lines.proofs.put_head.Goals as goal

-- the three pieces that the code stores
pieces : (u : Micros) (slots rows : ℕ) → table_head u slots rows ≡ (word "WorldFIP table\nmicrocycle " ++ in_us u) ++ (counted (word " ") slots (word " slots") ++ counted (word " ") rows (word " rows\n"))
unfolding table_head counted
pieces u slots rows =
    let w = word "WorldFIP table\nmicrocycle " in
    let e = counted (word " ") rows (word " rows\n") in
    ap (λ (t : List ℕ). w ++ (in_us u ++ t)) (counted_then (word " ") slots (word " slots") e) ∙ sym (append_assoc w (in_us u) (counted (word " ") slots (word " slots") ++ e))

pub returns : goal.returns
returns c = rw pieces (wrote_then c.put_us-first.ensures (wrote_then c.put_counted-second.ensures c.put_counted.ensures))
