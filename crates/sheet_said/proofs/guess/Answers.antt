-- `sheet_said::guess` meets its contract: each number is read from where the one before it ends.
use Rattle.sheet_said.proofs.Cells.{guess_is}
use Rattle.sheet_said.proofs.guess.Goals as goal

pub returns : goal.returns
returns c =
    let word = c.cell_at-word.ensures in
    let a = c.cell_at-a.ensures in
    let b = c.cell_at-b.ensures in
    let c3 = c.cell_at-c.ensures in
    let d = c.cell_at-d.ensures in
    let e = c.cell_at-e.ensures in
    guess_is _ _ _ _ _ _ _ _ _ _ _ _ _ _ c.kind_in.ensures
    (word.number_value, (word.line_value, word.next_in_bounds))
    (a.number_value, (a.line_value, a.next_in_bounds))
    (b.number_value, (b.line_value, b.next_in_bounds))
    (c3.number_value, (c3.line_value, c3.next_in_bounds))
    (d.number_value, (d.line_value, d.next_in_bounds))
    (e.number_value, (e.line_value, e.next_in_bounds))
