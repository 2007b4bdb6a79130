-- Page 01, 'WorldFIP table', its last sentences: what a table is. No builder stands here. Assumes nothing.
use Rattle.std.specs.Prelude.{◌≡◌, ℕ, ◌+◌, ◌*◌, ◌%◌, ◌^◌, ◌≤◌, ◌<◌}
use Rattle.std.specs.Int.Count.{ones}
use Rattle.common.specs.Sums.{sum}
use Rattle.worldfip_sets.specs.Sets.{bit}

-- what a table is asked for: variables by rank from 0, each with its period in rows; the slots of a row; how many rows
pub record Asked : Type 0 where
  pub vars : ℕ
  pub period : ℕ → ℕ
  pub slots : ℕ
  pub rows : ℕ

-- at most 64 variables, and a whole number of periods of each in the rows
pub record Sound (A : Asked) : Type 0 where
  pub few : A.vars ≤ 64
  pub long : (r : ℕ) → r < A.vars → 1 ≤ A.period r
  pub whole : (r : ℕ) → r < A.vars → A.rows % A.period r ≡ 0
  pub some : 1 ≤ A.rows

-- in how many of the w rows from row z on the bit of rank r is set
unfoldable pub places : (ℕ → ℕ) → ℕ → ℕ → ℕ → ℕ
unfolding bit sum
places T r z w = sum (λ l. bit (T (z + l)) r) w

-- T m is row m: its set bits are ranks, and at most the slots; in each of its periods each variable's bit is set in exactly one row
pub record Table (A : Asked) (T : ℕ → ℕ) : Type 0 where
  pub ranks : (m : ℕ) → m < A.rows → T m < 2 ^ A.vars
  pub fits : (m : ℕ) → m < A.rows → ones (T m) ≤ A.slots
  pub once : (r t : ℕ) → r < A.vars → t * A.period r < A.rows → places T r (t * A.period r) (A.period r) ≡ 1
