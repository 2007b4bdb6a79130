-- `sheet_messages::count_missing` meets its contract. The loop's invariant: the masters so far have what counts.
use Rattle.sheet_messages.proofs.Counting.{CountedTo}
use Rattle.sheet_messages.proofs.count_missing.Given as goal

abbrev pub invariant-loop-message : goal.invariant-loop-message
invariant-loop-message l = CountedTo l.message-index l.initial.messages l.messages
