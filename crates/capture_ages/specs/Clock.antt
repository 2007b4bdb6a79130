-- What is kept of a capture between two records, the clock and what it showed, and what one record makes of it. Numbers of 64 bits go on around
-- the wrap, which no capture of fewer than 2^64 bp comes to. Assumes nothing.
use Rattle.std.specs.Prelude.{ℕ, ◌+◌, ◌-◌, ◌%◌, ◌^◌, Bool, false, cond, ◌||◌, ◌==◌, nat_le}
use Rattle.common.specs.Sums.{when}
use Rattle.capture_log.specs.declared.Event.{Event}
use Rattle.capture_log.specs.Log.{around}
use Rattle.capture_ages.specs.Ages.{lead_behind}
use Rattle.capture_ages.specs.declared.Watch.{Watch}

-- before the first record
abbrev pub began : Watch
began = record { clock = 0; stamp = 0; broken = false; soon = 0; whose = 0 }

-- from an earlier reading of the clock to a later one
unfoldable pub ago : ℕ → ℕ → ℕ
ago later earlier = (later + (2 ^ 64 - earlier)) % 2 ^ 64

-- bp from the record before to a record with this stamp; 1 at the first
unfoldable pub step_of : Watch → ℕ → ℕ
unfolding around
step_of w stamp = cond (w.clock == 0) 1 (around stamp w.stamp)

unfoldable pub tick : Watch → ℕ → ℕ
unfolding step_of
tick w stamp = (w.clock + step_of w stamp) % 2 ^ 64

-- that is 2^31 bp or more
unfoldable pub far_of : Watch → ℕ → Bool
unfolding step_of
far_of w stamp = nat_le (2 ^ 31) (step_of w stamp)

-- the lead of a request of a stream with the spacing T, whose last request was at `previous` (0: none) and had this lead
unfoldable pub lead_of : Watch → Event → ℕ → ℕ → ℕ → ℕ
unfolding tick ago lead_behind
lead_of w e T previous lead = lead_behind T previous lead (ago (tick w e.stamp) previous)

-- what is kept behind the record e; `early` says whether it came too soon
unfoldable pub watch_with : Watch → Event → Bool → Watch
unfolding tick far_of
watch_with w e early = record {
  clock = tick w e.stamp;
  stamp = e.stamp;
  broken = w.broken || far_of w e.stamp;
  soon = (w.soon + when early 1) % 2 ^ 64;
  whose = cond (w.whose == 0) (when early e.stream) w.whose;
}
