-- docs/DECISIONS.md, 'What a capture's bounds rest on': ages and gaps of a capture's requests, by a clock that goes on where the tester's
-- counter runs over, on the list of its records alone. The latest record is first. Assumes nothing.
use Rattle.std.specs.Prelude.{ℕ, ◌+◌, ◌-◌, ◌^◌, Bool, false, cond, not, ◌&&◌, ◌||◌, List, [], ◌∷◌, ◌==◌, nat_le, nat_lt}
use Rattle.common.specs.Sums.{when}
use Rattle.capture_log.specs.declared.Event.{Event}
use Rattle.capture_log.specs.Log.{asks, around, fresh, left}

-- ---- The clock

-- bp from the record before to the record e; the clock is 1 at the first record, so that 0 means 'none yet'
unfoldable pub step : Event → List Event → ℕ
unfolding around
step e [] = 1
step e (f ∷ es) = around e.stamp f.stamp

-- the clock at the latest record: the sum of the steps
unfoldable pub clock : List Event → ℕ
unfolding step
clock [] = 0
clock (e ∷ es) = clock es + step e es

-- two successive records are 2^31 bp or more apart: they do not stand in order of time, or nothing was recorded for that long
unfoldable pub far : Event → List Event → Bool
unfolding step
far e [] = false
far e (f ∷ es) = nat_le (2 ^ 31) (around e.stamp f.stamp)

unfoldable pub broken : List Event → Bool
unfolding far
broken [] = false
broken (e ∷ es) = broken es || far e es

-- ---- Requests

-- the clock at the last request of stream i, 0 if there is none
unfoldable pub asked : List Event → ℕ → ℕ
unfolding asks clock
asked [] i = 0
asked (e ∷ es) i = cond (asks e i) (clock (e ∷ es)) (asked es i)

-- Spacing (page 02, Ask 7): each request is 0 to J behind a nominal time of its own, and these are at least T apart. So it is 0 to J before the
-- instant J behind its nominal time, when it is due at the latest, and these are as far apart. The earliest that a request can be
-- due is when it comes, or T behind the one before, whichever is later; its lead is how far ahead of it that is. Here the last request was
-- at `previous` (0: none) with this lead, and the next comes `gap` behind it
unfoldable pub lead_behind : ℕ → ℕ → ℕ → ℕ → ℕ
lead_behind T previous lead gap = when (not (previous == 0)) (lead + T - gap)

-- with a lead above J it came too soon; then the next one's is counted from when it came
unfoldable pub kept_lead : ℕ → ℕ → ℕ
kept_lead J lead = cond (nat_lt J lead) 0 lead

-- T i and J i are those of stream i
module _ (T J : ℕ → ℕ) where
  -- the lead of the last request of stream i, 0 if there is none
  unfoldable pub lead : List Event → ℕ → ℕ
  unfolding asks asked clock lead_behind kept_lead
  lead [] i = 0
  lead (e ∷ es) i =
      let new = lead_behind (T i) (asked es i) (lead es i) (clock (e ∷ es) - asked es i) in
      cond (asks e i) (kept_lead (J i) new) (lead es i)

  -- e is a request that came too soon; es are the records before
  unfoldable pub early : Event → List Event → Bool
  unfolding asked clock lead lead_behind
  early e es =
      let i = e.stream in
      (e.kind == 16) && nat_lt (J i) (lead_behind (T i) (asked es i) (lead es i) (clock (e ∷ es) - asked es i))

  -- how many requests came too soon
  unfoldable pub soon : List Event → ℕ
  unfolding early
  soon [] = 0
  soon (e ∷ es) = soon es + when (early e es) 1

  -- the stream of the first of them, 0 if there is none
  unfoldable pub whose : List Event → ℕ
  unfolding early
  whose [] = 0
  whose (e ∷ es) = cond (whose es == 0) (when (early e es) e.stream) (whose es)

-- a request of stream i is open at the latest record, for longer than R
unfoldable pub beyond : ℕ → List Event → ℕ → Bool
unfolding left clock asked
beyond R es i = not (left fresh es i == 0) && nat_lt R (clock es - asked es i)
