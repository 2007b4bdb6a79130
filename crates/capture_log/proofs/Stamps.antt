-- The wrap of the tester's counter gives the true response: `around` of two stamps is the time between them, below 2^32 bp, whatever
-- the counter was at the start. Assumes nothing.
use Rattle.std.proofs.Common.{◌≡◌, ℕ, ◌-◌, ◌^◌, ◌<◌, ◌≤◌, arith}
use Rattle.capture_log.specs.Log.{stamp_at, around}

-- 'true below 2^32 bp', whatever the counter was at the start
pub true_response : (z a b : ℕ) → a ≤ b → b - a < 2 ^ 32 → around (stamp_at z b) (stamp_at z a) ≡ b - a
unfolding stamp_at around
true_response z a b le lt = omega arith
