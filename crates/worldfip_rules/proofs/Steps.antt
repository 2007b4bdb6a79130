-- What one row does, rank by rank, for any order that serves members of the set it is given. Assumes nothing.
use mathlib.Core.Path.{◌≡◌, ap, ◌∙◌}
use Prim.Native.Nat.{ℕ, zero, suc, ◌+◌, ◌*◌, ◌/◌, ◌%◌, ◌^◌, ◌≤◌, ◌<◌, min}
use native.Mathlib.Nat.{add-zero, mod-eq_of_lt, mul-add-mod_self_right, mul-mod_left, div-add-mod', mul-le-mul_right, suc-mul}
use native.Mathlib.Omega.{arith}
use native.Mathlib.Decide.{ℕ_discrete, dec_le}
use lib.Bits.{bit_or, or_lt, and_le_l}
use lib.Count.{ones}
use lib.Dec.{eqb}
use lib.Pow.{pow_pos}
use borrow.Author.Tests.{eq-eqb, ne_eqb}
use Rattle.common.specs.Sums.{when, sum}
use Rattle.common.proofs.FromZero.{sum_front, sum_none}
use Rattle.worldfip_sets.specs.Sets.{bit}
use Rattle.worldfip_sets.proofs.Members.{bit_small, bit_none, bit_or_law, bit_and_law, set_of_below, set_of_bit}
use Rattle.worldfip_sets.proofs.Picks.{Picks, lowest_picks, left_below, served_bit, served_below, served_few, served_full}
use Rattle.worldfip_rules.specs.Table.{Asked}
use Rattle.worldfip_rules.specs.Build.{asks, new, Order, by_rank, pending, ready, row, late}

-- ---- Multiples of a period

-- 1 at the multiples of p, else 0
unfoldable pub hit : ℕ → ℕ → ℕ
hit p m = when (eqb (m % p) 0) 1

pub hit_yes : (p m : ℕ) → m % p ≡ 0 → hit p m ≡ 1
unfolding hit
hit_yes p m e = simp (eq-eqb (m % p) 0 e)

hit_no : (p m : ℕ) → (m % p ≡ 0 → ⊥) → hit p m ≡ 0
unfolding hit
hit_no p m e = simp (ne_eqb (m % p) 0 e)

pub hit_one : (p m : ℕ) → hit p m ≡ 1 → m % p ≡ 0
hit_one p m e = go (ℕ_discrete (m % p) 0)
  where
    go : Dec (m % p ≡ 0) → m % p ≡ 0
    go (yes q) = q
    go (no q) = let z : hit p m ≡ 0 = hit_no p m q in omega arith

-- one in each period
pub hit_once : (p t : ℕ) → 1 ≤ p → sum (λ l. hit p (t * p + l)) p ≡ 1
hit_once zero t h = omega arith
hit_once (suc p) t h =
    sum_front (λ l. hit (suc p) (t * suc p + l)) p
    ∙ omega (
      arith,
      hit_yes (suc p) (t * suc p + 0) (rw add-zero (mul-mod_left t (suc p))),
      sum_none (λ l. hit (suc p) (t * suc p + suc l)) p (λ l k. hit_no (suc p) (t * suc p + suc l) (λ e. never l k e)),
    )
  where
    never : (l : ℕ) → l < p → (t * suc p + suc l) % suc p ≡ 0 → ⊥
    never l k e =
        let a : (t * suc p + suc l) % suc p ≡ suc l % suc p = mul-add-mod_self_right t (suc p) (suc l) in
        let b : suc l % suc p ≡ suc l = mod-eq_of_lt (omega arith) in
        omega arith

-- two multiples of p lie at least p apart
pub apart : (p a b : ℕ) → a % p ≡ 0 → b % p ≡ 0 → a < b → a + p ≤ b
apart p a b ea eb l = go (dec_le (b / p) (a / p))
  where
    x : a / p * p ≡ a
    x = omega (arith, div-add-mod' a p)

    y : b / p * p ≡ b
    y = omega (arith, div-add-mod' b p)

    go : Dec (b / p ≤ a / p) → a + p ≤ b
    go (yes q) = omega (arith, x, y, mul-le-mul_right p q)
    go (no q) =
        let h : suc (a / p) ≤ b / p = omega (arith, q) in
        omega (arith, x, y, mul-le-mul_right p h, suc-mul (a / p) p)

-- ---- New requests

pub new_below : (A : Asked) (m : ℕ) → new A m < 2 ^ A.vars
unfolding new
new_below A m = set_of_below (asks A m) A.vars

pub new_bit : (A : Asked) (m r : ℕ) → r < A.vars → bit (new A m) r ≡ hit (A.period r) m
unfolding new asks hit
new_bit A m r l = set_of_bit (asks A m) A.vars r l

-- ---- One row

-- what misses is pending and new
pub late_bit : (A : Asked) (o : Order) (m r : ℕ) → bit (late A o m) r ≡ min (bit (pending A o m) r) (bit (new A m) r)
unfolding late
late_bit A o m r = bit_and_law (pending A o m) (new A m) r

-- an order that serves members
pub record Picking (A : Asked) (o : Order) : Type 0 where
  pub at_row : (m : ℕ) → Picks A.vars (o m)

pub rank_picking : (A : Asked) → A.vars ≤ 64 → Picking A by_rank
unfolding by_rank
rank_picking A few = record { at_row = λ m. record { in_set = λ x h l. (lowest_picks A.vars few).in_set x h l } }

module _ (A : Asked) (o : Order) (P : Picking A o) where
  pub pending_below : (m : ℕ) → pending A o m < 2 ^ A.vars
  unfolding pending
  pending_below zero = pow_pos A.vars
  pending_below (suc m) =
      left_below A.vars (o m) (P.at_row m) A.slots (bit_or (pending A o m) (new A m))
      (or_lt A.vars (pending A o m) (new A m) (pending_below m) (new_below A m))

  pub ready_below : (m : ℕ) → ready A o m < 2 ^ A.vars
  unfolding ready
  ready_below m = or_lt A.vars (pending A o m) (new A m) (pending_below m) (new_below A m)

  pub row_below : (m : ℕ) → row A o m < 2 ^ A.vars
  unfolding row
  row_below m = served_below A.vars (o m) (P.at_row m) A.slots (ready A o m) (ready_below m)

  pub late_below : (m : ℕ) → late A o m < 2 ^ A.vars
  unfolding late
  late_below m = omega (arith, pending_below m, and_le_l (pending A o m) (new A m))

  -- a row has at most `slots` set bits
  pub row_few : (m : ℕ) → ones (row A o m) ≤ A.slots
  unfolding row
  row_few m = served_few A.vars (o m) (P.at_row m) A.slots (ready A o m) (ready_below m)

  -- a row that leaves something is full
  pub row_full : (m : ℕ) → (pending A o (suc m) ≡ 0 → ⊥) → ones (row A o m) ≡ A.slots
  unfolding row pending ready
  row_full m h = served_full A.vars (o m) (P.at_row m) A.slots (ready A o m) (ready_below m) h

  -- a row serves what it has to serve, or leaves it
  pub row_bit : (m r : ℕ) → bit (row A o m) r + bit (pending A o (suc m)) r ≡ bit (ready A o m) r
  unfolding row pending ready
  row_bit m r = served_bit A.vars (o m) (P.at_row m) A.slots (bit_or (pending A o m) (new A m)) r (ready_below m)

module _ (A : Asked) (o : Order) (m r : ℕ) (quiet : late A o m ≡ 0) where
  no_late : bit (late A o m) r ≡ 0
  no_late = ap (λ (x : ℕ). bit x r) quiet ∙ bit_none r

  -- without a miss, what a row has to serve is what was pending and what is new, none of it twice
  pub ready_bit : bit (ready A o m) r ≡ bit (pending A o m) r + bit (new A m) r
  unfolding ready
  ready_bit = omega (arith, no_late, late_bit A o m r, bit_or_law (pending A o m) (new A m) r)

  -- and nothing is pending where a new request falls
  pub clear : r < A.vars → m % A.period r ≡ 0 → bit (pending A o m) r ≡ 0
  clear l d =
      omega (arith, no_late, late_bit A o m r, new_bit A m r l, hit_yes (A.period r) m d, bit_small (pending A o m) r)
