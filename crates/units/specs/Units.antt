-- Page 01, 'Units': one bit period is 625/48 us; a bound in bp becomes us rounded up, a deadline in us becomes bp rounded down.
-- Page 02, 'Ask 5': one bit period is 78,125/6 ns; a bound in bp becomes ns rounded up.
-- The kinds of count are types of their own here too; one of a ring is in no rule. Assumes nothing.
use Rattle.std.specs.Prelude.{ℕ, ◌-◌, ◌*◌, ◌/◌, ◌^◌, ◌≤◌, min}
use Rattle.common.specs.Sums.{up}
use Rattle.units.specs.declared.BitPeriods.{BitPeriods}
use Rattle.units.specs.declared.Micros.{Micros}
use Rattle.units.specs.declared.Nanos.{Nanos}
use Rattle.units.specs.declared.RingPeriods.{RingPeriods}

-- a count of bp, one of us, one of ns, and one of bp of a ring
abbrev pub bp : ℕ → BitPeriods
bp n = record { 0 = n }

abbrev pub us : ℕ → Micros
us n = record { 0 = n }

abbrev pub ns : ℕ → Nanos
ns n = record { 0 = n }

abbrev pub ring_bp : ℕ → RingPeriods
ring_bp n = record { 0 = n }

-- n bp, and the greatest count that 32 bits hold where n is above it
unfoldable pub capped : ℕ → BitPeriods
capped n = bp (min n (2 ^ 32 - 1))

-- b bp are over within u us: 48 bp last 625 us
abbrev pub Within : BitPeriods → Micros → Type 0
Within b u = 625 * b.0 ≤ 48 * u.0

-- b bp are over within n ns: 6 bp last 78,125 ns
abbrev pub WithinNanos : BitPeriods → Nanos → Type 0
WithinNanos b n = 78125 * b.0 ≤ 6 * n.0

-- b rounded up: the least count of us that b fits into, and the least of ns
unfoldable pub micros_up : BitPeriods → Micros
unfolding up
micros_up b = us (up (625 * b.0) 48)

unfoldable pub nanos_up : BitPeriods → Nanos
unfolding up
nanos_up b = ns (up (78125 * b.0) 6)

-- u rounded down: the greatest count of bp that fits into u, of those that 32 bits hold
unfoldable pub periods_down : Micros → BitPeriods
unfolding capped
periods_down u = capped (48 * u.0 / 625)
