-- `capture_ages::clock_at` meets its contract.
use Rattle.std.proofs.Common.{ℕ, ◌+◌, ◌%◌, ◌^◌, ap}
use Rattle.capture_ages.specs.Clock.{tick}
use Rattle.capture_ages.proofs.clock_at.Goals as goal

pub returns : goal.returns
unfolding tick
returns c = ap (λ (s : ℕ). (c.args.w.clock + s) % 2 ^ 64) c.step-s.ensures
