-- Page 01, 'Units', and page 02, 'Ask 5': what the rounding rules are, each of them fixed by its words alone. Assumes nothing.
use mathlib.Core.Path.{◌≡◌, ap}
use Prim.Native.Nat.{ℕ, ◌*◌, ◌/◌, ◌^◌, ◌≤◌, ◌<◌}
use native.Mathlib.Nat.{mul_comm}
use native.Mathlib.Omega.{arith}
use Rattle.common.specs.Sums.{up}
use Rattle.common.proofs.Sums as sums
use Rattle.units.specs.Units.{bp, us, ns, Within, WithinNanos, micros_up, nanos_up, periods_down}
use Rattle.units.specs.declared.BitPeriods.{BitPeriods}
use Rattle.units.specs.declared.Micros.{Micros}
use Rattle.units.specs.declared.Nanos.{Nanos}

-- ---- Rounding up, whatever the unit

-- n is the least number that is enough
pub record Least (Enough : ℕ → Type 0) (n : ℕ) : Type 0 where
  pub enough : Enough n
  pub least : (m : ℕ) → Enough m → n ≤ m

pub least_is_one : (Enough : ℕ → Type 0) (n m : ℕ) → Least Enough n → Least Enough m → n ≡ m
least_is_one Enough n m a b = omega (arith, a.least m b.enough, b.least n a.enough)

-- x/t rounded up is the least that t times cover x
pub up_is_least : (x t : ℕ) → 0 < t → Least (λ n. x ≤ t * n) (up x t)
up_is_least x t some =
    record {
      enough = omega (arith, sums.up_covers x t some, mul_comm (up x t) t);
      least = λ m h. sums.up_at_most x t m some (omega (arith, mul_comm m t));
    }

-- ---- A bound, rounded up

-- u is the least count of us that covers b, n the least count of ns
abbrev pub Covers : BitPeriods → Micros → Type 0
Covers b u = Least (λ v. Within b (us v)) u.0

abbrev pub CoversNanos : BitPeriods → Nanos → Type 0
CoversNanos b n = Least (λ v. WithinNanos b (ns v)) n.0

pub micros_cover : (b : BitPeriods) → Covers b (micros_up b)
unfolding micros_up
micros_cover b = up_is_least (625 * b.0) 48 (omega arith)

pub nanos_cover : (b : BitPeriods) → CoversNanos b (nanos_up b)
unfolding nanos_up
nanos_cover b = up_is_least (78125 * b.0) 6 (omega arith)

pub no_other_micros : (b : BitPeriods) (u : Micros) → Covers b u → u ≡ micros_up b
no_other_micros b u h = ap us (least_is_one (λ v. Within b (us v)) u.0 (micros_up b).0 h (micros_cover b))

pub no_other_nanos : (b : BitPeriods) (n : Nanos) → CoversNanos b n → n ≡ nanos_up b
no_other_nanos b n h = ap ns (least_is_one (λ v. WithinNanos b (ns v)) n.0 (nanos_up b).0 h (nanos_cover b))

-- 64 bits hold the us and the ns of every 32-bit count of bp
pub up_of_32_bits : (b : BitPeriods) → b.0 < 2 ^ 32 → ((micros_up b).0 < 2 ^ 64) × ((nanos_up b).0 < 2 ^ 64)
unfolding micros_up nanos_up up
up_of_32_bits b s = (omega arith, omega arith)

-- ---- A deadline, rounded down

-- b is the greatest count of bp that fits into u, of those that 32 bits hold
pub record Fits (u : Micros) (b : BitPeriods) : Type 0 where
  pub small : b.0 < 2 ^ 32
  pub enough : Within b u
  pub greatest : (a : BitPeriods) → a.0 < 2 ^ 32 → Within a u → a.0 ≤ b.0

pub down_fits : (u : Micros) → Fits u (periods_down u)
unfolding periods_down
down_fits u = record { small = omega arith; enough = omega arith; greatest = λ a s w. omega arith }

pub down_is_the_only : (u : Micros) (b : BitPeriods) → Fits u b → b ≡ periods_down u
down_is_the_only u b h =
    ap bp (omega (arith, h.greatest (periods_down u) (down_fits u).small (down_fits u).enough, (down_fits u).greatest b h.small h.enough))

-- every 32-bit count of us has a greatest count of bp, and 32 bits hold it
pub down_of_32_bits : (u : Micros) → u.0 < 2 ^ 32 → (periods_down u).0 ≡ 48 * u.0 / 625
unfolding periods_down
down_of_32_bits u s = omega arith
