-- Page 01, 'P-NET bounds': H and V, from what reading a sheet gathered of its masters: at place y the number of master y's streams, and the
-- longest C of them; and page 02, Ask 10: what each master is charged under an edition. Assumes nothing.
use Rattle.std.specs.Prelude.{ℕ, min, max, List, eqb, get_or}
use Rattle.common.specs.Sums.{when, upto, greatest}
use Rattle.units.specs.Units.{capped}
use Rattle.units.specs.declared.BitPeriods.{BitPeriods}
use Rattle.pnet_rules.specs.Segment.{charge, charged_by}

-- what stands at a place, and 0 past the end
abbrev pub at : List ℕ → ℕ → ℕ
at l i = get_or l i 0

-- H of master y
unfoldable pub hold_in : List ℕ → List ℕ → ℕ → ℕ
unfolding charge
hold_in counts longests y = charge (at counts y) (at longests y)

-- the largest H of masters 1..N, and no more than the 32 that a sheet can have
unfoldable pub largest_in : List ℕ → List ℕ → ℕ → ℕ
unfolding greatest hold_in
largest_in counts longests N = greatest (hold_in counts longests) (min N 32)

-- what each is charged under an edition
unfoldable pub charged_in : List ℕ → List ℕ → ℕ → ℕ → ℕ → ℕ
unfolding hold_in largest_in
charged_in counts longests N edition = charged_by (hold_in counts longests) (largest_in counts longests N) edition

-- V: the sum of what masters 1..N are charged, again at most 32
unfoldable pub turn_of : List ℕ → List ℕ → ℕ → ℕ → BitPeriods
unfolding upto charged_in capped
turn_of counts longests N edition = capped (upto (charged_in counts longests N edition) (min N 32))

-- ---- One master's charge, as the planner works it out: its H, but no less than a floor

-- the floor that makes it the charge of an edition
unfoldable pub floor_of : List ℕ → List ℕ → ℕ → ℕ → BitPeriods
unfolding largest_in capped
floor_of counts longests N edition = capped (when (eqb edition 2) (largest_in counts longests N))

-- the charge of a master with s streams, the longest C of them being c
unfoldable pub charge_of : ℕ → BitPeriods → BitPeriods → BitPeriods
unfolding charge capped
charge_of s c floor = capped (max (charge s c.0) floor.0)
