-- Laws of serving: the best of a set is taken out again and again. Assumes nothing.
use mathlib.Core.Path.{◌≡◌, refl, sym, ◌∙◌}
use mathlib.Core.Logic.{◌⊎◌, inl, inr}
use Prim.Native.Nat.{ℕ, zero, suc, ◌+◌, ◌-◌, ◌^◌, ◌≤◌, ◌<◌}
use native.Mathlib.Nat.{eq-zero-or-pos}
use native.Mathlib.Omega.{arith}
use native.Mathlib.Decide.{ℕ_discrete, dec_lt}
use lib.Bits.{bit_xor, xor_lt, xor_zero_r}
use lib.Count.{ones, ones-le}
use lib.Pow.{pow-lt, pow_mono}
use borrow.Author.Tests.{ne_eqb}
use Rattle.common.specs.Sums.{sum}
use Rattle.common.proofs.FromZero.{sum_same, sum_add, sum_change}
use Rattle.worldfip_sets.specs.Sets.{bit, lowest, left, served}
use Rattle.worldfip_sets.proofs.Members.{bit_small, bit_none, bit_xor_law, bit_same, bit_other, bit_above, same_members, ones_sum, no_ones, Lowest, trailing_lowest}

-- ---- One member taken out

module _ (x b : ℕ) (member : bit x b ≡ 1) where
  pub out_same : bit (bit_xor x (2 ^ b)) b ≡ 0
  out_same = omega (arith, bit_xor_law x (2 ^ b) b, bit_same b)

  pub out_other : (r : ℕ) → (b ≡ r → ⊥) → bit (bit_xor x (2 ^ b)) r ≡ bit x r
  out_other r n = omega (arith, bit_xor_law x (2 ^ b) r, bit_other b r n)

  pub out_less : (r : ℕ) → bit (bit_xor x (2 ^ b)) r ≤ bit x r
  out_less r = go (ℕ_discrete b r)
    where
      go : Dec (b ≡ r) → bit (bit_xor x (2 ^ b)) r ≤ bit x r
      go (yes e) = rw (← e) (omega (arith, out_same))
      go (no n) = omega (arith, out_other r n)

-- ---- What is left, by cases

pub left_none : (best : ℕ → ℕ) (s : ℕ) → left best s 0 ≡ 0
unfolding left
left_none best zero = refl
left_none best (suc s) = refl

pub left_all : (best : ℕ → ℕ) (x : ℕ) → left best 0 x ≡ x
unfolding left
left_all best x = refl

pub left_more : (best : ℕ → ℕ) (s x : ℕ) → 0 < x → left best (suc s) x ≡ left best s (bit_xor x (2 ^ best x))
unfolding left
left_more best s x h = simp (ne_eqb x 0 (λ e. omega arith))

-- one turn of the loop that takes the best out
pub left_turn : (best : ℕ → ℕ) (j k p t y z : ℕ) → k ≡ suc j → 0 < p → t ≡ best p → y ≡ 2 ^ t → left best k p ≡ z
    → left best j (bit_xor p y) ≡ z
left_turn best j k p t y z ek hp et ey e = rw (ey, et) (sym (left_more best j p hp) ∙ (rw ek at e))

-- ---- For any choice of a member

-- `best` chooses a member of each set below 2 ^ n that is not empty
pub record Picks (n : ℕ) (best : ℕ → ℕ) : Type 0 where
  pub in_set : (x : ℕ) → 0 < x → x < 2 ^ n → (best x < n) × (bit x (best x) ≡ 1)

module _ (n : ℕ) (best : ℕ → ℕ) (P : Picks n best) where
  out_below : (x : ℕ) → 0 < x → x < 2 ^ n → bit_xor x (2 ^ best x) < 2 ^ n
  out_below x h l = xor_lt n x (2 ^ best x) l (pow-lt {i = best x} {j = n} (P.in_set x h l).0)

  -- one fewer
  out_ones : (x : ℕ) → 0 < x → x < 2 ^ n → ones x ≡ ones (bit_xor x (2 ^ best x)) + 1
  out_ones x h l =
      let b = best x in
      let y = bit_xor x (2 ^ best x) in
      let m : bit x b ≡ 1 = (P.in_set x h l).1 in
      let d : sum (bit x) n ≡ sum (bit y) n + 1 =
      sum_change (bit x) (bit y) 1 b n (P.in_set x h l).0 (omega (arith, out_same x b m)) (λ r i. sym (out_other x b m r i)) in
      omega (arith, ones_sum n x l, ones_sum n y (out_below x h l))

  pub left_below : (s x : ℕ) → x < 2 ^ n → left best s x < 2 ^ n
  left_below zero x l = rw left_all l
  left_below (suc s) x l = go (eq-zero-or-pos x) (left_below s)
    where
      go : (x ≡ 0) ⊎ (0 < x) → ((y : ℕ) → y < 2 ^ n → left best s y < 2 ^ n) → left best (suc s) x < 2 ^ n
      go (inl e) ih = rw (e, left_none) (omega (arith, l))
      go (inr h) ih = rw (left_more best s x h) (ih (bit_xor x (2 ^ best x)) (out_below x h l))

  -- what is left was there
  left_less : (s x r : ℕ) → x < 2 ^ n → bit (left best s x) r ≤ bit x r
  left_less zero x r l = rw left_all (omega arith)
  left_less (suc s) x r l = go (eq-zero-or-pos x) (left_less s)
    where
      go : (x ≡ 0) ⊎ (0 < x) → ((y r : ℕ) → y < 2 ^ n → bit (left best s y) r ≤ bit y r) → bit (left best (suc s) x) r ≤ bit x r
      go (inl e) ih = rw (e, left_none) (omega arith)
      go (inr h) ih =
          rw (left_more best s x h)
          (omega (arith, ih (bit_xor x (2 ^ best x)) r (out_below x h l), out_less x (best x) (P.in_set x h l).1 r))

  -- s fewer, or none
  left_ones : (s x : ℕ) → x < 2 ^ n → ones (left best s x) ≡ ones x - s
  left_ones zero x l = rw left_all (omega arith)
  left_ones (suc s) x l = go (eq-zero-or-pos x) (left_ones s)
    where
      go : (x ≡ 0) ⊎ (0 < x) → ((y : ℕ) → y < 2 ^ n → ones (left best s y) ≡ ones y - s) → ones (left best (suc s) x) ≡ ones x - suc s
      go (inl e) ih = rw (e, left_none) (omega (arith, ones-le 0 0 (omega arith)))
      go (inr h) ih = rw (left_more best s x h) (omega (arith, ih (bit_xor x (2 ^ best x)) (out_below x h l), out_ones x h l))

  -- what is taken and what is left are the set
  pub served_bit : (s x r : ℕ) → x < 2 ^ n → bit (served best s x) r + bit (left best s x) r ≡ bit x r
  unfolding served
  served_bit s x r l = omega (arith, bit_xor_law x (left best s x) r, left_less s x r l)

  pub served_below : (s x : ℕ) → x < 2 ^ n → served best s x < 2 ^ n
  unfolding served
  served_below s x l = xor_lt n x (left best s x) l (left_below s x l)

  -- and their counts are its count
  served_ones : (s x : ℕ) → x < 2 ^ n → ones (served best s x) + ones (left best s x) ≡ ones x
  served_ones s x l =
      let y = served best s x in
      let z = left best s x in
      omega (
        arith,
        ones_sum n x l,
        ones_sum n y (served_below s x l),
        ones_sum n z (left_below s x l),
        sum_add (bit y) (bit z) n,
        sum_same (λ r. bit y r + bit z r) (bit x) n (λ r k. served_bit s x r l),
      )

  -- at most s are taken
  pub served_few : (s x : ℕ) → x < 2 ^ n → ones (served best s x) ≤ s
  served_few s x l = omega (arith, served_ones s x l, left_ones s x l)

  -- where something is left, s are taken
  pub served_full : (s x : ℕ) → x < 2 ^ n → (left best s x ≡ 0 → ⊥) → ones (served best s x) ≡ s
  served_full s x l h =
      let w : (ones (left best s x) ≡ 0 → ⊥) = λ (q : ones (left best s x) ≡ 0). h (no_ones n (left best s x) (left_below s x l) q) in
      omega (arith, w, served_ones s x l, left_ones s x l)

  -- the rest of the set, as the code finds it
  pub served_rest : (s x : ℕ) → x < 2 ^ n → bit_xor x (served best s x) ≡ left best s x
  served_rest s x l =
      same_members n (bit_xor x (served best s x)) (left best s x) (xor_lt n x (served best s x) l (served_below s x l)) (left_below s x l)
      (λ r k. omega (arith, bit_xor_law x (served best s x) r, served_bit s x r l))

  -- where there are no more than s, all are taken
  pub served_all : (s x : ℕ) → x < 2 ^ n → ones x ≤ s → x ≡ served best s x
  unfolding served
  served_all s x l h =
      let e : left best s x ≡ 0 = no_ones n (left best s x) (left_below s x l) (omega (arith, left_ones s x l)) in
      rw (e, xor_zero_r)

-- ---- The lowest

pub lowest_is : (x : ℕ) → 0 < x → x < 2 ^ 64 → Lowest 64 x (lowest x)
unfolding lowest
lowest_is x h l = trailing_lowest 64 x h l

pub lowest_picks : (n : ℕ) → n ≤ 64 → Picks n lowest
lowest_picks n k = record { in_set = λ x h l. at x l (lowest_is x h (omega (arith, pow_mono {i = n} {j = 64} k))) }
  where
    under_n : (x t : ℕ) → x < 2 ^ n → bit x t ≡ 1 → Dec (t < n) → t < n
    under_n x t l e (yes q) = q
    under_n x t l e (no q) = let z : bit x t ≡ 0 = bit_above n x t l (omega (arith, q)) in omega arith

    at : (x : ℕ) → x < 2 ^ n → Lowest 64 x (lowest x) → (lowest x < n) × (bit x (lowest x) ≡ 1)
    at x l w = (under_n x (lowest x) l w.member (dec_lt (lowest x) n), w.member)

pub lowest_under : (p t : ℕ) → 0 < p → p < 2 ^ 64 → t ≡ lowest p → t < 64
lowest_under p t h l e = rw e (lowest_is p h l).within

-- what is left is of worse rank than all that is served
pub left_worse : (s x a b : ℕ) → x < 2 ^ 64 → bit x a ≡ 1 → bit (left lowest s x) a ≡ 0 → bit (left lowest s x) b ≡ 1 → a < b
left_worse zero x a b l ha na hb = let z : bit x a ≡ 0 = rw left_all at na in omega arith
left_worse (suc s) x a b l ha na hb = go (eq-zero-or-pos x) (left_worse s) (ℕ_discrete (lowest x) a)
  where
    P : Picks 64 lowest
    P = lowest_picks 64 (omega arith)

    go : (x ≡ 0) ⊎ (0 < x) → ((y a b : ℕ) → y < 2 ^ 64 → bit y a ≡ 1 → bit (left lowest s y) a ≡ 0 → bit (left lowest s y) b ≡ 1 → a < b)
        → Dec (lowest x ≡ a) → a < b
    go (inl e) ih d = let z : bit 0 a ≡ 1 = rw e at ha in omega (arith, bit_none a)
    go (inr h) ih (yes q) =
        let m = (P.in_set x h l).1 in
        let f : bit (left lowest s (bit_xor x (2 ^ lowest x))) b ≡ 1 = rw (left_more lowest s x h) at hb in
        let o : bit (bit_xor x (2 ^ lowest x)) b ≡ 1 =
        omega (arith, left_less 64 lowest P s (bit_xor x (2 ^ lowest x)) b (out_below 64 lowest P x h l), bit_small (bit_xor x (2 ^ lowest x)) b) in
        worse h o (dec_lt a b) (ℕ_discrete (lowest x) b)
      where
        worse : 0 < x → bit (bit_xor x (2 ^ lowest x)) b ≡ 1 → Dec (a < b) → Dec (lowest x ≡ b) → a < b
        worse h o (yes i) d = i
        worse h o (no i) (yes j) = let z : bit (bit_xor x (2 ^ lowest x)) b ≡ 0 = rw (← j) (out_same x (lowest x) (P.in_set x h l).1) in omega arith
        worse h o (no i) (no j) =
            let z : bit x b ≡ 0 = (lowest_is x h l).first b (omega (arith, i, j, q)) in
            omega (arith, out_other x (lowest x) (P.in_set x h l).1 b j)
    go (inr h) ih (no q) =
        ih (bit_xor x (2 ^ lowest x)) a b (out_below 64 lowest P x h l)
        (out_other x (lowest x) (P.in_set x h l).1 a q ∙ ha)
        (rw (left_more lowest s x h) at na)
        (rw (left_more lowest s x h) at hb)
