-- Page 01, 'PROFIBUS rotation time' and refusal 9: the answer, as the page says it and as it is computed. Assumes nothing.
use Rattle.std.specs.Prelude.{ℕ, zero, suc, ◌+◌, ◌-◌, ◌/◌, ◌≤◌, ◌<◌, min}
use Rattle.common.specs.Sums.{first_of}
use Rattle.profibus_rules.specs.Ring.{Ring, On, count, messages, needed, fails}

-- ---- As the page says it

-- all streams pass at TTR
pub record AllPass (R : Ring) (ttr : ℕ) : Type 0 where
  pub each : (i : ℕ) → On R i → needed R ttr i ≤ (R.stream i).deadline

-- stream i is the first that fails at TTR; at L, refusal 9 names it
pub record FirstFails (R : Ring) (ttr i : ℕ) : Type 0 where
  pub there : On R i
  pub fails : (R.stream i).deadline < needed R ttr i
  pub before : (j : ℕ) → 1 ≤ j → j < i → needed R ttr j ≤ (R.stream j).deadline

-- TTR, limited by stream i: all streams pass at TTR, i is the first that fails at TTR + 1, and TTR is at least L
pub record Limited (R : Ring) (ttr i : ℕ) : Type 0 where
  pub at_least : R.latency ≤ ttr
  pub passes : AllPass R ttr
  pub by : FirstFails R (ttr + 1) i

-- ---- As it is computed

-- the longest rotation that stream i bears: D less C, shared by its master's h streams, rounded down
unfoldable pub bears : Ring → ℕ → ℕ
unfolding count
bears R i = ((R.stream i).deadline - (R.stream i).cycle) / count R (R.stream i).master

-- the least of f 1, .., f n, and f 1 where n is 0
unfoldable pub least : (ℕ → ℕ) → ℕ → ℕ
least f zero = f 1
least f (suc n) = min (least f n) (f (suc n))

-- the largest TTR
unfoldable pub target : Ring → ℕ
unfolding least bears messages
target R = least (bears R) R.number - messages R

-- the first stream that fails at TTR, and one past the last where none fails
unfoldable pub first_failing : Ring → ℕ → ℕ
unfolding first_of fails
first_failing R ttr = first_of (fails R ttr) R.number 1
