-- `planner_io::input::read_text` takes what was read first as the first piece, and what follows. Assumes nothing.
use Rattle.std.proofs.Common.{sym, arith}
use Rattle.std.proofs.lemmas.List.{length-take-le}
use Rattle.text.proofs.Writing.{wrote_inside}
use Rattle.sheet_pieces.proofs.Kept.{room_is}
use Rattle.planner_io.proofs.Made.{took_word}
use Rattle.planner_io.proofs.input.read_text.Goals as goal

pub slice_bounds-piece-end : goal.slice_bounds-piece-end
slice_bounds-piece-end c = wrote_inside c.put_word-end.ensures

pub slice_bounds-take-end : goal.slice_bounds-take-end
slice_bounds-take-end c = sym (length-take-le _ _ (wrote_inside c.put_word-end.ensures))

pub returns-then-n-sheet-clause-made : goal.returns-then-n-sheet-clause-made
returns-then-n-sheet-clause-made c =
    let took = c.take-taken.ensures in
    let short = length-take-le c.args.n c.args.sheet.now c.requires.1 in
    c.told.ensures.by_index _
    (took_word c.args.sheet.now c.put_word-end.ensures (omega (arith, short, c.requires.0, c.requires.1, room_is)) c.start.ensures c.line_buffer-front.ensures c.requires.0 (took.value, (took.front_after, took.sheet_after)))

pub returns-clause-made : goal.returns-clause-made
returns-clause-made c =
    let took = c.take-taken.ensures in
    let short = length-take-le c.args.n c.args.sheet.now c.requires.1 in
    c.read_on.ensures.by_index _
    (took_word c.args.sheet.now c.put_word-end.ensures (omega (arith, short, c.requires.0, c.requires.1, room_is)) c.start.ensures c.line_buffer-front.ensures c.requires.0 (took.value, (took.front_after, took.sheet_after)))
