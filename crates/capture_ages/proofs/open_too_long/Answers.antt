-- `capture_ages::open_too_long` meets its contract: the test of the code is that of the contract.
use Rattle.std.proofs.Common.{Bool, sym, ap}
use Rattle.common.specs.Sums.{when}
use Rattle.capture_ages.specs.Clock.{ago}
use Rattle.capture_ages.proofs.open_too_long.Goals as goal

pub returns-then-left-bound : goal.returns-then-left-bound
unfolding ago
returns-then-left-bound c = sym (ap (λ (b : Bool). when b 1) c.if-left-bound.true)

pub returns : goal.returns
unfolding ago
returns c = sym (ap (λ (b : Bool). when b 1) c.if-left-bound.false)
