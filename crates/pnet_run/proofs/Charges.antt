-- A declared stream and its master, and the charges that cover a visit: 10 bp for an unused one, and 7 bp reaction, C and a 40 bp pass for
-- a used one. The page's H covers both, and so does any charge that is at least H, as that of either edition is (Charged). Assumes nothing.
use Prim.Native.Nat.{ℕ, zero, suc, ◌+◌, ◌≤◌}
use mathlib.Core.Path.{◌≡◌, refl}
use mathlib.Core.Bool.{Bool, true, false}
use native.Mathlib.Nat.{le_refl}
use native.Mathlib.Omega.{arith}
use lib.Dec.{eqb}
use borrow.Author.Tests.{eq-eqb, eqb-true}
use Rattle.common.specs.Sums.{when, upto}
use Rattle.common.proofs.Sums.{upto_most, greatest_least}
use Rattle.pnet_rules.specs.Segment.{Segment, owns, count, longest, hold}
use Rattle.pnet_rules.specs.Limits.{Declared}
use Rattle.pnet_rules.proofs.Holds.{count_owned, cycle_at_most_longest, hold_some, hold_at_least, cycle_held}
use Rattle.pnet_run.specs.Run.{Belongs}

-- ---- A stream of master m

pub owns_belongs : {S : Segment} {m i : ℕ} → Belongs S m i → owns S m i ≡ true
unfolding owns
owns_belongs {S} {m} {i} b = eq-eqb (S.stream i).master m b.own

pub count_belongs : {S : Segment} {m i : ℕ} → Belongs S m i → 1 ≤ count S m
count_belongs {S} {m} {i} b = count_owned S i b.from_one b.to_last m (owns_belongs b)

-- a master has no more of them than there are
pub count_most : (S : Segment) (m : ℕ) → count S m ≤ S.number
unfolding count
count_most S m = omega (arith, upto_most (λ i. when (owns S m i) 1) 1 S.number (λ i lo hi. one (owns S m i)))
  where
    one : (b : Bool) → when b 1 ≤ 1
    one true = omega arith
    one false = omega arith

-- a master with streams has one
pub belongs_count : (S : Segment) (m : ℕ) → 1 ≤ count S m → (i : ℕ) × Belongs S m i
unfolding count owns upto
belongs_count S m l = find S.number (le_refl S.number) l
  where
    find : (n : ℕ) → n ≤ S.number → 1 ≤ upto (λ j. when (eqb (S.stream j).master m) 1) n → (i : ℕ) × Belongs S m i
    find zero b l = absurd (omega arith)
    find (suc n) b l = go (eqb (S.stream (suc n)).master m) refl (find n (omega arith)) l
      where
        go : (t : Bool) → eqb (S.stream (suc n)).master m ≡ t → (1 ≤ upto (λ j. when (eqb (S.stream j).master m) 1) n → (i : ℕ) × Belongs S m i)
            → 1 ≤ upto (λ j. when (eqb (S.stream j).master m) 1) n + when t 1 → (i : ℕ) × Belongs S m i
        go true e ih h = (suc n, record { from_one = omega arith; to_last = b; own = eqb-true (S.stream (suc n)).master m e })
        go false e ih h = ih (omega arith)

-- in a declared segment its master is one of 1..N, and its C at least 1
pub in_ring : {S : Segment} {m i : ℕ} → Declared S → Belongs S m i → (1 ≤ m) × (m ≤ S.masters)
in_ring {i = i} d b = let r = d.ranges i b.from_one b.to_last in omega (arith, b.own)

pub some_cycle : {S : Segment} {m i : ℕ} → Declared S → Belongs S m i → 1 ≤ (S.stream i).cycle
some_cycle {i = i} d b = (d.ranges i b.from_one b.to_last).cycle_from

-- ---- Charges

-- a charge for each visit to a master and a surcharge for each used one: together they cover a used visit with the pass behind it, and the charge
-- alone an unused one
pub record Covers (h x : ℕ → ℕ) (S : Segment) : Type 0 where
  pub unused : (y : ℕ) → 1 ≤ y → y ≤ S.masters → 10 ≤ h y
  pub used : (y i : ℕ) → Belongs S y i → 7 + ((S.stream i).cycle + 40) ≤ h y + x y

-- no surcharge
abbrev pub free : ℕ → ℕ
free y = 0

-- a charge that is at least H, at masters 1..N, covers every visit
pub covers_if : {S : Segment} {h : ℕ → ℕ} → Declared S → ((y : ℕ) → 1 ≤ y → y ≤ S.masters → hold S y ≤ h y) → Covers h free S
covers_if {S} declared least = record {
  unused = λ y lo hi. omega (arith, hold_at_least S y, least y lo hi);
  used = λ y i b.
      let ring = in_ring declared b in
      omega (arith, least y ring.0 ring.1, rw b.own at (cycle_held S i b.from_one b.to_last));
}

-- where a master's streams are equally long, H is what a used visit takes at most, and no more
pub hold_alike : {S : Segment} {m i : ℕ} → Belongs S m i → ((j : ℕ) → Belongs S m j → (S.stream j).cycle ≡ (S.stream i).cycle)
    → hold S m ≡ 47 + (S.stream i).cycle
unfolding longest owns
hold_alike {S} {m} {i} b alike =
    omega (
      arith,
      hold_some S m (count_belongs b),
      cycle_at_most_longest S i b.from_one b.to_last m (owns_belongs b),
      greatest_least (λ j. when (owns S m j) (S.stream j).cycle) (S.stream i).cycle S.number (λ j lo hi. each j lo hi (eqb (S.stream j).master m) refl),
    )
  where
    each : (j : ℕ) → 1 ≤ j → j ≤ S.number → (t : Bool) → eqb (S.stream j).master m ≡ t → when t (S.stream j).cycle ≤ (S.stream i).cycle
    each j lo hi true e = omega (arith, alike j (record { from_one = lo; to_last = hi; own = eqb-true (S.stream j).master m e }))
    each j lo hi false e = omega arith
