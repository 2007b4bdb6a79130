-- What the builder is given, and what it leaves, in arrays that count from 0. Assumes nothing.
use Rattle.std.specs.Prelude.{◌≡◌, cond, List, ℕ, ◌+◌, ◌%◌, ◌≤◌, ◌<◌, length, get_or, eqb, leb}
use Rattle.common.specs.Sums.{when}
use Rattle.common.specs.Runs.{filled}
use Rattle.worldfip_sets.specs.Sets.{set_of, lowest}
use Rattle.worldfip_rules.specs.Table.{Asked}
use Rattle.worldfip_rules.specs.Build.{by_rank, row, late, miss_row}

-- periods in rows by rank, none of them 0, and a 0 behind the last
pub record Usable (q : List ℕ) (n : ℕ) : Type 0 where
  pub few : n ≤ 64
  pub there : n < length q
  pub long : (r : ℕ) → r < n → 0 < get_or q r 0
  pub ends : get_or q n 0 ≡ 0

-- room for so many rows and the end of the last, all 0
pub record Cleared (t : List ℕ) (rows : ℕ) : Type 0 where
  pub few : rows ≤ 4096
  pub there : rows < length t
  pub none : (m : ℕ) → get_or t m 0 ≡ 0

-- of n periods in rows, those that divide row m
unfoldable pub requests : List ℕ → ℕ → ℕ → ℕ
unfolding set_of
requests q n m = set_of (λ r. eqb (m % get_or q r 0) 0) n

-- periods in rows, by rank; s slots, so many rows
unfoldable pub given : List ℕ → ℕ → ℕ → ℕ → Asked
given q n s rows = record { vars = n; period = λ r. get_or q r 0; slots = s; rows = rows }

-- the variables that miss at the row of the earliest miss; none where nobody misses
unfoldable pub missing : Asked → ℕ
unfolding miss_row late
missing A = when (leb (miss_row A by_rank) A.rows) (late A by_rank (miss_row A by_rank))

-- the number of the best-ranked of them, whose places in the sheet v holds; 0 where nobody misses
unfoldable pub missed_by : List ℕ → Asked → ℕ
unfolding missing lowest
missed_by v A = cond (eqb (missing A) 0) 0 (get_or v (lowest (missing A)) 0 + 1)

-- the run `old` with the rows in its first places, or as it was where someone misses
unfoldable pub rows_in : Asked → List ℕ → List ℕ
unfolding missing filled row
rows_in A old = cond (eqb (missing A) 0) (filled (row A by_rank) A.rows old) old
