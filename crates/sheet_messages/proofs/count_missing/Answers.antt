use native.Mathlib.Omega.{arith}
use Rattle.common.proofs.Runs.{filling_none}
use Rattle.sheet_messages.proofs.Counting.{counted_more, counted_all}
use Rattle.sheet_messages.proofs.count_missing.Goals as goal

pub loop-message-init : goal.loop-message-init
loop-message-init c = filling_none _ _

pub loop-message-preserved : goal.loop-message-preserved
loop-message-preserved c = counted_more _ c.loop-message.invariant (omega arith) c.counted.ensures

pub returns : goal.returns
returns c = counted_all c.loop-message.invariant (omega arith) (omega arith)
