-- Page 01, 'WorldFIP table' and refusal 12, in the page's words: a miss is a request still pending when the variable's next falls due, the
-- end of the last row included; 12 names the earliest miss, and at one row the best rank. Assumes nothing.
use Rattle.std.specs.Prelude.{◌≡◌, ℕ, ◌*◌, ◌%◌, ◌≤◌, ◌<◌}
use Rattle.worldfip_sets.specs.Sets.{bit}
use Rattle.worldfip_rules.specs.Traffic.{Traffic, period_of, variable_of, microcycle, rows, pending_of}

-- the variable of rank r misses at row m: a request of it is pending when row m begins, and its next falls due then
pub record Miss (T : Traffic) (m r : ℕ) : Type 0 where
  pub rank : r < T.number
  pub pending : bit (pending_of T m) r ≡ 1
  pub due : (m * microcycle T) % period_of T (variable_of T r) ≡ 0

-- variable i is the one that 12 names
pub record Named (T : Traffic) (i : ℕ) : Type 0 where
  pub row : ℕ
  pub within : row ≤ rows T
  pub rank : ℕ
  pub is : variable_of T rank ≡ i
  pub misses : Miss T row rank
  pub earliest : (m r : ℕ) → m < row → Miss T m r → ⊥
  pub best : (r : ℕ) → r < rank → Miss T row r → ⊥
