-- `capture_tally::exceeds` meets its contract.
use Rattle.std.proofs.Common.{refl, le-ltb, lt-ltb}
use Rattle.capture_tally.proofs.exceeds.Goals as goal

pub returns-then-bound-shown : goal.returns-then-bound-shown
returns-then-bound-shown c = rw (lt-ltb _ _ c.if-bound-shown.true) refl

pub returns-else-bound-shown : goal.returns-else-bound-shown
returns-else-bound-shown c = rw (le-ltb _ _ c.if-bound-shown.false) refl
