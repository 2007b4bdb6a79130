-- `sheet_line::put_line` stores the line of a record, by its kind.
use borrow.Author.Rules.{rules}
use Rattle.sheet_line.proofs.Lines.{left_out, segment_pieces, stream_pieces, ring_stream_pieces, exchange_pieces, variable_pieces, jitter_stream_pieces, edition_pieces, ring_pieces, message_pieces, no_line}
use Rattle.sheet_line.proofs.put_line.Goals as goal

pub returns-in-1 : goal.returns-in-1
returns-in-1 c =
    let m = c in
    rw (segment_pieces m.args.r m.in-1.is) c.put_cells.ensures

pub returns-in-2 : goal.returns-in-2
returns-in-2 c =
    let m = c in
    rw (stream_pieces m.args.r m.in-2.is) c.put_cells-in-2.ensures

pub returns-in-4 : goal.returns-in-4
returns-in-4 c =
    let m = c in
    rw (ring_stream_pieces m.args.r m.in-4.is) c.put_cells-in-4.ensures

pub returns-in-5 : goal.returns-in-5
returns-in-5 c =
    let m = c in
    rw (exchange_pieces m.args.r m.in-5.is) c.put_counted.ensures

pub returns-in-6 : goal.returns-in-6
returns-in-6 c =
    let m = c in
    rw (variable_pieces m.args.r m.in-6.is) c.put_cells-in-6.ensures

pub returns-in-7 : goal.returns-in-7
returns-in-7 c =
    let m = c in
    rw (jitter_stream_pieces m.args.r m.in-7.is) c.put_cells-in-7.ensures

pub returns-in-8 : goal.returns-in-8
returns-in-8 c =
    let m = c in
    rw (edition_pieces m.args.r m.in-8.is) c.put_cells-in-8.ensures

pub returns-in-9 : goal.returns-in-9
returns-in-9 c =
    let m = c in
    rw (ring_pieces m.args.r m.in-9.is) c.put_cells-in-9.ensures

pub returns-in-10 : goal.returns-in-10
returns-in-10 c =
    let m = c in
    rw (message_pieces m.args.r m.in-10.is) c.put_cells-in-10.ensures

pub returns-in_default : goal.returns-in_default
returns-in_default c =
    let m = c in
    rw (no_line m.args.r (search (rules, left_out))) c.put_word.ensures
