-- `sheet_write::put_record` meets its contract: 4 for a kind that the writer puts, else what `put_free` answers.
use mathlib.Core.Path.{◌≡◌}
use mathlib.Core.Bool.{Bool, not, ◌&&◌}
use Rattle.sheet_write.proofs.Writing.{range_written, free_written}
use Rattle.sheet_write.proofs.put_record.Goals as goal

-- the test, in the words of the page
test : {w g w' g' : Bool} {b : Bool} → w ≡ w' → g ≡ g' → (w && not g) ≡ b → (w' && not g') ≡ b
test e f t = rw (← e, ← f) t

pub returns-then-written-in_range : goal.returns-then-written-in_range
returns-then-written-in_range c =
    let a = c.args in
    let r = range_written a.buf.now a.at a.r (test c.written.ensures c.in_range.ensures c.if-written-in_range.true) in record { value = r.0; buf_after = r.1 }

pub returns : goal.returns
returns c =
    let start = c in
    let a = start.args in
    let r = free_written a.buf.now a.at a.r (test c.written.ensures c.in_range.ensures c.if-written-in_range.false) (c.put_free.ensures.value, c.put_free.ensures.buf_after) in
    record { value = r.0; buf_after = r.1 }
