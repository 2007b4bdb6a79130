-- `capture_tally::open_no` meets its contract.
use Rattle.std.proofs.Common.{refl}
use Rattle.capture_tally.specs.Steps.{open_no}
use Rattle.capture_tally.proofs.open_no.Goals as goal

pub returns-then-kind-waiting : goal.returns-then-kind-waiting
unfolding open_no
returns-then-kind-waiting c = rw c.if-kind-waiting.true refl

pub returns-then-kind-waiting-2 : goal.returns-then-kind-waiting-2
unfolding open_no
returns-then-kind-waiting-2 c = rw (c.if-kind-waiting.false, c.if-kind-waiting-2.true) refl

pub returns : goal.returns
unfolding open_no
returns c = rw (c.if-kind-waiting.false, c.if-kind-waiting-2.false) refl
