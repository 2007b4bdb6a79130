-- `text_entry::with_byte` meets its contract.
use Rattle.common.proofs.Outside.{inside}
use Rattle.text_entry.specs.Entered.{with_byte}
use Rattle.text_entry.proofs.Laws.{is_digit_law, is_none}
use Rattle.text_entry.proofs.with_byte.Goals as goal

pub returns-then-byte : goal.returns-then-byte
unfolding with_byte
returns-then-byte c = rw (is_none _ c.if-byte.true)

pub with_digit-requires : goal.with_digit-requires
with_digit-requires c = inside 48 _ 57 c.if-byte.false

pub returns : goal.returns
unfolding with_byte
returns c =
    let byte = c.args.byte in
    let i = inside 48 byte 57 c.if-byte.false in
    rw (is_digit_law byte i.0 i.1) c.with_digit.ensures
