-- `sheet_messages::message_of` meets its contract.
use Rattle.sheet_messages.proofs.Counting.{past_all, among_masters}
use Rattle.sheet_messages.proofs.message_of.Goals as goal

pub returns-then-y-gt32 : goal.returns-then-y-gt32
returns-then-y-gt32 c = past_all c.args.messages.now c.args.y c.if-y-gt32.true

pub returns : goal.returns
returns c = among_masters c.args.messages.now c.args.y c.if-y-gt32.false
