-- What the directions of rounding are for. A bound that is turned up into us or ns meets a deadline exactly if it meets the deadline turned
-- down into bp: whichever unit a verdict is given in, it is the same. Assumes nothing.
use mathlib.Core.Path.{◌≡◌}
use Prim.Native.Nat.{◌*◌, ◌/◌, ◌^◌, ◌≤◌, ◌<◌}
use native.Mathlib.Omega.{arith}
use Rattle.common.specs.Sums.{up}
use Rattle.units.specs.Units.{Within, WithinNanos, micros_up, nanos_up, periods_down}
use Rattle.units.specs.declared.BitPeriods.{BitPeriods}
use Rattle.units.specs.declared.Micros.{Micros}
use Rattle.units.specs.declared.Nanos.{Nanos}

-- two verdicts that are the same
abbrev Same : Type 0 → Type 0 → Type 0
Same A B = (A → B) × (B → A)

-- ---- In us

-- for every bound b that 32 bits hold, and every deadline u
pub verdict_same_in_bp_and_us : (b : BitPeriods) (u : Micros) → b.0 < 2 ^ 32 → Same ((micros_up b).0 ≤ u.0) (b.0 ≤ (periods_down u).0)
unfolding micros_up periods_down up
verdict_same_in_bp_and_us b u s = ((λ h. omega arith), (λ h. omega arith))

-- and it is the verdict of the time itself: b bp are over within u us
pub verdict_is_exact : (b : BitPeriods) (u : Micros) → Same ((micros_up b).0 ≤ u.0) (Within b u)
unfolding micros_up up
verdict_is_exact b u = ((λ h. omega arith), (λ h. omega arith))

-- ---- In ns

-- for a deadline in ns, of which 78,125 last 6 bp
pub verdict_same_in_bp_and_ns : (b : BitPeriods) (n : Nanos) → Same ((nanos_up b).0 ≤ n.0) (b.0 ≤ 6 * n.0 / 78125)
unfolding nanos_up up
verdict_same_in_bp_and_ns b n = ((λ h. omega arith), (λ h. omega arith))

pub verdict_is_exact_in_ns : (b : BitPeriods) (n : Nanos) → Same ((nanos_up b).0 ≤ n.0) (WithinNanos b n)
unfolding nanos_up up
verdict_is_exact_in_ns b n = ((λ h. omega arith), (λ h. omega arith))

-- for a deadline in us, of which each is 1,000 ns
pub verdict_same_in_us_and_ns : (b : BitPeriods) (u : Micros) → Same ((nanos_up b).0 ≤ 1000 * u.0) ((micros_up b).0 ≤ u.0)
unfolding micros_up nanos_up up
verdict_same_in_us_and_ns b u = ((λ h. omega arith), (λ h. omega arith))

-- for a deadline in bp that is turned up too, as a report shows one count beside another
pub verdict_same_of_counts_shown : (b d : BitPeriods) → Same ((nanos_up b).0 ≤ (nanos_up d).0) (b.0 ≤ d.0)
unfolding nanos_up up
verdict_same_of_counts_shown b d = ((λ h. omega arith), (λ h. omega arith))

-- ---- What is promised in bp is promised in the ns that are shown

-- what takes at most b bp is over within the ns shown for b
pub promise_kept_in_ns : (t b : BitPeriods) → t.0 ≤ b.0 → WithinNanos t (nanos_up b)
unfolding nanos_up up
promise_kept_in_ns t b h = omega arith

-- and where something takes exactly b bp, no lower figure in ns would be true
pub no_lower_ns : (b : BitPeriods) (n : Nanos) → n.0 < (nanos_up b).0 → WithinNanos b n → ⊥
unfolding nanos_up up
no_lower_ns b n l h = omega arith

-- ---- The three units are one time

-- the us of page 01 are the ns turned up once more
pub ns_turned_up_are_us : (b : BitPeriods) → up (nanos_up b).0 1000 ≡ (micros_up b).0
unfolding micros_up nanos_up up
ns_turned_up_are_us b = omega arith
