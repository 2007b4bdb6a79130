-- Page 01, 'WorldFIP table': rank, microcycle, slots and rows, from what a sheet declares. Assumes nothing.
use Rattle.std.specs.Prelude.{Bool, cond, ℕ, zero, suc, ◌/◌, ◌≤◌, eqb, ltb}
use Rattle.common.specs.Sums.{when, upto, first_of}
use Rattle.worldfip_sets.specs.Sets.{lowest}
use Rattle.worldfip_sets.specs.Remainder.{hcf, lcm}
use Rattle.worldfip_rules.specs.Table.{Asked}
use Rattle.worldfip_rules.specs.Build.{by_rank, pending, row, late, miss_row}

-- ---- What a sheet declares

-- a variable, its period in us
pub record Variable : Type 0 where
  pub identifier : ℕ
  pub period : ℕ

-- one buffer exchange E, in us, and variables 1..number
pub record Traffic : Type 0 where
  pub exchange : ℕ
  pub number : ℕ
  pub variable : ℕ → Variable

-- what a sheet allows
pub record Declared (T : Traffic) : Type 0 where
  pub exchange_in : (1 ≤ T.exchange) × (T.exchange ≤ 1000000)
  pub number_in : (1 ≤ T.number) × (T.number ≤ 64)
  pub period_in : (i : ℕ) → 1 ≤ i → i ≤ T.number → (1 ≤ (T.variable i).period) × ((T.variable i).period ≤ 1000000000)

abbrev pub period_of : Traffic → ℕ → ℕ
period_of T i = (T.variable i).period

-- periods alone: all that ranks, microcycle, slots and rows go by
unfoldable pub plain : ℕ → ℕ → (ℕ → ℕ) → Traffic
plain e n p = record { exchange = e; number = n; variable = λ i. record { identifier = 0; period = p i } }

-- ---- Rank

-- variable j goes before variable i: shorter period first, equal periods by sheet order
unfoldable pub ahead : Traffic → ℕ → ℕ → Bool
ahead T j i = cond (eqb (period_of T j) (period_of T i)) (ltb j i) (ltb (period_of T j) (period_of T i))

-- the rank of variable i, from 0: how many variables go before it
unfoldable pub rank_of : Traffic → ℕ → ℕ
unfolding upto ahead
rank_of T i = upto (λ j. when (ahead T j i) 1) T.number

-- the variable of rank r, and one past the last where there is none
unfoldable pub variable_of : Traffic → ℕ → ℕ
unfolding first_of rank_of
variable_of T r = first_of (λ i. eqb (rank_of T i) r) T.number 1

-- the identifier of rank r, and 0 past the last rank
unfoldable pub identifier_at : Traffic → ℕ → ℕ
unfolding variable_of
identifier_at T r = when (ltb r T.number) (T.variable (variable_of T r)).identifier

-- ---- Microcycle, slots, rows

-- the highest common factor of f 1, .., f n
unfoldable pub factor_upto : (ℕ → ℕ) → ℕ → ℕ
unfolding hcf
factor_upto f zero = 0
factor_upto f (suc n) = hcf (factor_upto f n) (f (suc n))

-- the least common multiple of f 1, .., f n
unfoldable pub multiple_upto : (ℕ → ℕ) → ℕ → ℕ
unfolding lcm
multiple_upto f zero = 1
multiple_upto f (suc n) = lcm (multiple_upto f n) (f (suc n))

unfoldable pub microcycle : Traffic → ℕ
unfolding factor_upto
microcycle T = factor_upto (period_of T) T.number

-- how many exchanges fit a microcycle
unfoldable pub slots : Traffic → ℕ
unfolding microcycle
slots T = microcycle T / T.exchange

-- the period of variable i in rows
unfoldable pub in_rows : Traffic → ℕ → ℕ
unfolding microcycle
in_rows T i = period_of T i / microcycle T

unfoldable pub rows : Traffic → ℕ
unfolding multiple_upto in_rows
rows T = multiple_upto (in_rows T) T.number

-- the period of rank r in rows, and 0 past the last rank
unfoldable pub period_at : Traffic → ℕ → ℕ
unfolding in_rows variable_of
period_at T r = when (ltb r T.number) (in_rows T (variable_of T r))

-- what the sheet asks of its table
unfoldable pub asked_of : Traffic → Asked
unfolding period_at slots rows
asked_of T = record { vars = T.number; period = period_at T; slots = slots T; rows = rows T }

-- ---- The sheet's table, served by rank

abbrev pub pending_of : Traffic → ℕ → ℕ
pending_of T m = pending (asked_of T) by_rank m

abbrev pub row_of : Traffic → ℕ → ℕ
row_of T m = row (asked_of T) by_rank m

abbrev pub late_of : Traffic → ℕ → ℕ
late_of T m = late (asked_of T) by_rank m

-- the row of the earliest miss
abbrev pub miss_of : Traffic → ℕ
miss_of T = miss_row (asked_of T) by_rank

-- who misses there, best rank first
unfoldable pub missing_of : Traffic → ℕ
unfolding lowest variable_of
missing_of T = variable_of T (lowest (late_of T (miss_of T)))
