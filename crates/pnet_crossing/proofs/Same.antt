-- A path's answer goes by the figures of its own segments and gateways alone: what agrees there answers alike. Assumes nothing.
use mathlib.Core.Path.{◌≡◌, refl, sym, ap, ◌∙◌}
use mathlib.Core.Bool.{Bool, true, false, ◌||◌}
use mathlib.Core.List.{List}
use Prim.Native.Nat.{ℕ, zero, suc, ◌+◌, ◌*◌, ◌≤◌}
use native.Mathlib.Omega.{arith}
use lib.Dec.{ltb}
use Rattle.common.specs.Checks.{Check, verdict, unless}
use Rattle.common.proofs.Firsts.{first_same}
use Rattle.common.proofs.Outside.{inside}
use Rattle.units.specs.Units.{bp}
use Rattle.pnet_crossing.specs.Cost.{segment_step, gateway_step, cost_over, is_too_long, path_checks, crossing_by}
use Rattle.pnet_crossing.proofs.Checked.{too_many}

-- R, F and who is absent agree on g gateways and g + 1 segments
pub record Alike (R R' F F' : ℕ → ℕ) (absent absent' : ℕ → Bool) (g : ℕ) : Type 0 where
  pub bounds : (i : ℕ) → 1 ≤ i → i ≤ g + 1 → R i ≡ R' i
  pub times : (i : ℕ) → 1 ≤ i → i ≤ g → F i ≡ F' i
  pub senders : (i : ℕ) → 1 ≤ i → i ≤ g + 1 → absent i ≡ absent' i

module _ {R R' F F' : ℕ → ℕ} {absent absent' : ℕ → Bool} {g : ℕ} (a : Alike R R' F F' absent absent' g) (D : ℕ) where
  mutual
    unfolding segment_step

    segment_same : (left i : ℕ) → 1 ≤ i → i + i + left ≤ 2 * g + 3 → segment_step R F left i ≡ segment_step R' F' left i
    segment_same zero i from to = refl
    segment_same (suc left) i from to = omega (arith, a.bounds i from (omega arith), gateway_same left i from (omega arith))

    gateway_same : (left i : ℕ) → 1 ≤ i → i + i + left ≤ 2 * g + 2 → gateway_step R F left i ≡ gateway_step R' F' left i
    gateway_same zero i from to = refl
    gateway_same (suc left) i from to = omega (arith, a.times i from (omega arith), segment_same left (i + 1) (omega arith) (omega arith))

  cost_same : cost_over R F g ≡ cost_over R' F' g
  unfolding cost_over
  cost_same = segment_same (2 * g + 1) 1 (omega arith) (omega arith)

  checks_same : path_checks R F absent g D ≡ path_checks R' F' absent' g D
  unfolding path_checks is_too_long
  checks_same =
      rw (
        first_same (is_too_long F) (is_too_long F') g 1 (λ i lo hi. ap (ltb 1000000) (a.times i lo (omega arith))),
        first_same absent absent' (g + 1) 1 (λ i lo hi. a.senders i lo (omega arith)),
        cost_same,
      )

  alike_crossing : crossing_by R F absent g D ≡ crossing_by R' F' absent' g D
  unfolding crossing_by
  alike_crossing =
      ap (λ (cs : List Check). unless (verdict cs) (bp (cost_over R F g))) checks_same ∙ ap (λ (c : ℕ). unless (verdict (path_checks R' F' absent' g D)) (bp c)) cost_same

-- with none or more than ten gateways nothing else is looked at
pub crossing_same : (R R' F F' : ℕ → ℕ) (absent absent' : ℕ → Bool) (g D : ℕ) → (1 ≤ g → g ≤ 10 → Alike R R' F F' absent absent' g)
    → crossing_by R F absent g D ≡ crossing_by R' F' absent' g D
crossing_same R R' F F' absent absent' g D alike = split (ltb g 1 || ltb 10 g) refl
  where
    split : (b : Bool) → (ltb g 1 || ltb 10 g) ≡ b → crossing_by R F absent g D ≡ crossing_by R' F' absent' g D
    split true e = sym (too_many R F absent g D e) ∙ too_many R' F' absent' g D e
    split false e = let r = inside 1 g 10 e in alike_crossing (alike r.0 r.1) D
