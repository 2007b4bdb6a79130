-- Laws of the charge: H, but no less than the floor of an edition, is what a master is charged under it; and what is worked out from a segment's counts
-- and longest cycles is the segment's charge and V. Assumes nothing.
use mathlib.Core.Path.{◌≡◌, refl, ap, ◌∙◌}
use mathlib.Core.Bool.{Bool, true, false, cond}
use mathlib.Core.List.{List}
use Prim.Native.Nat.{ℕ, zero, suc, ◌+◌, ◌-◌, ◌≤◌, min, max}
use native.Mathlib.Omega.{arith}
use lib.Dec.{eqb}
use Rattle.common.specs.Sums.{when, upto, greatest}
use Rattle.common.proofs.Sums.{upto_same, greatest_most, greatest_least}
use Rattle.units.specs.Units.{bp, capped}
use Rattle.units.specs.declared.BitPeriods.{BitPeriods}
use Rattle.pnet_rules.specs.Segment.{Segment, charge, count, longest, hold, largest, charged, turn_by, turn}
use Rattle.pnet_rules.specs.Limits.{Declared}
use Rattle.pnet_rules.proofs.Holds.{turn_at_most}
use Rattle.pnet_turn.specs.Turn.{at, hold_in, largest_in, charged_in, turn_of, floor_of, charge_of}

-- ---- A loop that counts from 1 has had y - 1 of them when it comes to y

pub upto_next : (f : ℕ → ℕ) (y : ℕ) → 1 ≤ y → upto f (y + 1 - 1) ≡ upto f (y - 1) + f y
unfolding upto
upto_next f zero h = elim h [ ]
upto_next f (suc y) h = let e : suc y + 1 - 1 ≡ suc y = omega arith in let d : suc y - 1 ≡ y = omega arith in rw (e, d) refl

pub greatest_next : (f : ℕ → ℕ) (y : ℕ) → 1 ≤ y → greatest f (y + 1 - 1) ≡ max (greatest f (y - 1)) (f y)
unfolding greatest
greatest_next f zero h = elim h [ ]
greatest_next f (suc y) h = let e : suc y + 1 - 1 ≡ suc y = omega arith in let d : suc y - 1 ≡ y = omega arith in rw (e, d) refl

-- ---- Under an edition

module _ (counts longests : List ℕ) (N edition : ℕ) where
  -- of a master 1..N no less than the largest H of them is that one
  pub floored : (floor : ℕ) → floor ≡ when (eqb edition 2) (largest_in counts longests N) → (y : ℕ) → 1 ≤ y → y ≤ min N 32
      → max (charge (at counts y) (at longests y)) floor ≡ charged_in counts longests N edition y
  unfolding charged_in hold_in largest_in
  floored floor e y lo hi = split (eqb edition 2) e
    where
      split : (b : Bool) → floor ≡ when b (largest_in counts longests N)
          → max (charge (at counts y) (at longests y)) floor ≡ (cond b (λ (z : ℕ). largest_in counts longests N) (hold_in counts longests)) y
      split true q = omega (arith, greatest_most (hold_in counts longests) (min N 32) y lo hi)
      split false q = omega arith

  -- H is small where the longest C is, so 32 bits hold the charge
  module _ (small : (y : ℕ) → y ≤ 32 → at longests y ≤ 1548) where
    hold_small : (y : ℕ) → y ≤ 32 → hold_in counts longests y ≤ 1595
    unfolding hold_in charge
    hold_small y l = split (eqb (at counts y) 0) (small y l)
      where
        split : (b : Bool) → at longests y ≤ 1548 → cond b 10 (47 + at longests y) ≤ 1595
        split true q = omega arith
        split false q = omega arith

    floor_small : when (eqb edition 2) (largest_in counts longests N) ≤ 1595
    unfolding largest_in
    floor_small = split (eqb edition 2)
      where
        split : (b : Bool) → when b (largest_in counts longests N) ≤ 1595
        split true = greatest_least (hold_in counts longests) 1595 (min N 32) (λ y lo hi. hold_small y (omega arith))
        split false = omega arith

    pub charge_is : (floor h : BitPeriods) (y : ℕ) → floor ≡ floor_of counts longests N edition → h ≡ charge_of (at counts y) (bp (at longests y)) floor → 1 ≤ y → y ≤ min N 32
        → h.0 ≡ charged_in counts longests N edition y
    unfolding floor_of charge_of capped hold_in
    charge_is floor h y ef eh lo hi =
        let f : floor.0 ≡ when (eqb edition 2) (largest_in counts longests N) = omega (arith, ap (λ (b : BitPeriods). b.0) ef, floor_small) in
        omega (arith, ap (λ (b : BitPeriods). b.0) eh, floored floor.0 f y lo hi, hold_small y (omega arith), floor_small)

-- the greatest of the same figures
greatest_same : (f g : ℕ → ℕ) (n : ℕ) → ((y : ℕ) → 1 ≤ y → y ≤ n → f y ≡ g y) → greatest f n ≡ greatest g n
greatest_same f g n e =
    omega (
      arith,
      greatest_least f (greatest g n) n (λ y lo hi. omega (arith, e y lo hi, greatest_most g n y lo hi)),
      greatest_least g (greatest f n) n (λ y lo hi. omega (arith, e y lo hi, greatest_most f n y lo hi)),
    )

-- ---- A segment's

module _ (S : Segment) (d : Declared S) (counts longests : List ℕ) (N edition : ℕ) (masters-are : N ≡ S.masters) (edition-is : edition ≡ S.edition)
    (counts-are : (y : ℕ) → y ≤ 32 → at counts y ≡ count S y) (longests-are : (y : ℕ) → y ≤ 32 → at longests y ≡ longest S y) where
  all : min N 32 ≡ S.masters
  all = omega (arith, masters-are, d.masters_to)

  hold_same : (y : ℕ) → y ≤ 32 → hold_in counts longests y ≡ hold S y
  unfolding hold_in hold
  hold_same y l = rw (counts-are y l, longests-are y l)

  largest_same : largest_in counts longests N ≡ largest S
  unfolding largest_in largest
  largest_same = ap (greatest (hold_in counts longests)) all ∙ greatest_same (hold_in counts longests) (hold S) S.masters (λ y lo hi. hold_same y (omega (arith, d.masters_to)))

  pub charged_same : (y : ℕ) → 1 ≤ y → y ≤ S.masters → charged_in counts longests N edition y ≡ charged S y
  unfolding charged_in charged
  charged_same y lo hi = rw edition-is (split (eqb S.edition 2))
    where
      split : (b : Bool) → (cond b (λ (z : ℕ). largest_in counts longests N) (hold_in counts longests)) y ≡ (cond b (λ (z : ℕ). largest S) (hold S)) y
      split true = largest_same
      split false = hold_same y (omega (arith, d.masters_to))

  -- V, which 32 bits hold
  pub turn_same : (v : BitPeriods) → v ≡ turn_of counts longests N edition → v.0 ≡ turn S
  unfolding turn_of turn turn_by capped
  turn_same v e =
      let same = ap (upto (charged_in counts longests N edition)) all ∙ upto_same (charged_in counts longests N edition) (charged S) S.masters charged_same in
      omega (arith, ap (λ (b : BitPeriods). b.0) e, same, turn_at_most S d)
