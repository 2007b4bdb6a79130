-- `sheet_messages::counted` meets its contract.
use Rattle.sheet_messages.proofs.Counting.{missing_counts, given_counts}
use Rattle.sheet_messages.proofs.counted.Goals as goal

pub returns-then-message-eq0 : goal.returns-then-message-eq0
returns-then-message-eq0 c = missing_counts c.args.message c.if-message-eq0.true

pub returns-else-message-eq0 : goal.returns-else-message-eq0
returns-else-message-eq0 c = given_counts c.args.message c.if-message-eq0.false
