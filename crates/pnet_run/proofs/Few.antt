-- For worked cases: segments of one stream or three, stream by stream, and that a small segment is declared. Assumes nothing.
use Prim.Native.Nat.{ℕ, zero, suc, ◌≤◌}
use native.Mathlib.Omega.{arith}
use Rattle.sheet_record.specs.declared.Given.{Given}
use Rattle.pnet_rules.specs.Segment.{Segment}
use Rattle.pnet_rules.specs.Limits.{Ranged, Declared}
use Rattle.pnet_run.proofs.Charges.{count_most}

-- of one stream
pub alone : (P : ℕ → Type 0) → P 1 → (i : ℕ) → 1 ≤ i → i ≤ 1 → P i
alone P x zero lo hi = absurd (omega arith)
alone P x (suc zero) lo hi = x
alone P x (suc (suc i)) lo hi = absurd (omega arith)

-- of three
pub each : (P : ℕ → Type 0) → P 1 → P 2 → P 3 → (i : ℕ) → 1 ≤ i → i ≤ 3 → P i
each P x y z zero lo hi = absurd (omega arith)
each P x y z (suc zero) lo hi = x
each P x y z (suc (suc zero)) lo hi = y
each P x y z (suc (suc (suc zero))) lo hi = z
each P x y z (suc (suc (suc (suc i)))) lo hi = absurd (omega arith)

-- what stands before a stream of a segment of n masters
abbrev pub limits : ℕ → Given
limits n = record { masters = n; message = 0 }

-- with at most 80 streams in all, no master has more
pub declared_if_few : (S : Segment) → 1 ≤ S.masters → S.masters ≤ 32 → 1 ≤ S.number → S.number ≤ 80
    → ((i : ℕ) → 1 ≤ i → i ≤ S.number → Ranged S.masters (S.stream i)) → Declared S
declared_if_few S a b c d ranges = record {
  masters_from = a;
  masters_to = b;
  number_from = c;
  number_to = omega arith;
  ranges = ranges;
  counts = λ k. omega (arith, count_most S k);
}
