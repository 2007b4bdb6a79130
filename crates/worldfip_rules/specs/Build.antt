-- Page 01, 'WorldFIP table': the builder, row by row, for any order of service; the base serves by rank. Assumes nothing.
use Rattle.std.specs.Prelude.{◌≡◌, Bool, ℕ, zero, suc, ◌%◌, ◌≤◌, eqb, ltb}
use Rattle.std.specs.Int.Bits.{bit_or, bit_and}
use Rattle.common.specs.Sums.{first_of}
use Rattle.worldfip_sets.specs.Sets.{lowest, left, served, set_of}
use Rattle.worldfip_rules.specs.Table.{Asked}

-- ---- Requests

-- the variable of rank r has a new request at row m
unfoldable pub asks : Asked → ℕ → ℕ → Bool
asks A m r = eqb (m % A.period r) 0

-- the variables with a new request at row m
unfoldable pub new : Asked → ℕ → ℕ
unfolding asks set_of
new A m = set_of (asks A m) A.vars

-- ---- Rows

-- an order of service: which member of a set row m serves first
abbrev pub Order : Type 0
Order = ℕ → ℕ → ℕ

-- by rank
unfoldable pub by_rank : Order
unfolding lowest
by_rank m x = lowest x

-- what is pending when row m begins, its new requests not counted: what row m - 1 left
unfoldable pub pending : Asked → Order → ℕ → ℕ
unfolding new left
pending A o zero = 0
pending A o (suc m) = left (o m) A.slots (bit_or (pending A o m) (new A m))

-- what row m has to serve
unfoldable pub ready : Asked → Order → ℕ → ℕ
unfolding pending new
ready A o m = bit_or (pending A o m) (new A m)

-- row m: what it serves, until its slots are full
unfoldable pub row : Asked → Order → ℕ → ℕ
unfolding ready served
row A o m = served (o m) A.slots (ready A o m)

-- ---- Misses

-- the variables that miss at row m: still pending when the next request falls due
unfoldable pub late : Asked → Order → ℕ → ℕ
unfolding pending new
late A o m = bit_and (pending A o m) (new A m)

unfoldable pub miss_at : Asked → Order → ℕ → Bool
unfolding late
miss_at A o m = ltb 0 (late A o m)

-- the row of the earliest miss, the end of the last row included; one row more where there is none
unfoldable pub miss_row : Asked → Order → ℕ
unfolding first_of miss_at
miss_row A o = first_of (miss_at A o) (suc A.rows) 0

-- no miss
unfoldable pub Accepts : Asked → Order → Type 0
unfolding late
Accepts A o = (m : ℕ) → m ≤ A.rows → late A o m ≡ 0
