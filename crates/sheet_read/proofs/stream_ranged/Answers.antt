-- `sheet_read::stream_ranged` meets its contract: for a ring as for the other buses it is what `stream_in_range` answers, by what is given to the stream's master.
use Rattle.sheet_read.proofs.stream_ranged.Goals as goal

pub returns-then-bus-eq3 : goal.returns-then-bus-eq3
returns-then-bus-eq3 c =
    let m = c.message_of-message.ensures in
    let b = c.if-bus-eq3.true in
    let r = c.stream_in_range.ensures in
    cc

pub returns : goal.returns
returns c =
    let m = c.message_of-message.ensures in
    let r = c.stream_in_range-2.ensures in
    cc
