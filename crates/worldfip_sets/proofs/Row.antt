-- A row of s slots takes the ranks below s at once, and its ones say how many slots are free for the others. Assumes nothing.
use mathlib.Core.Path.{◌≡◌, refl, sym, ap, ◌∙◌}
use mathlib.Core.Logic.{◌⊎◌, inl, inr}
use Prim.Native.Nat.{ℕ, zero, suc, ◌+◌, ◌-◌, ◌%◌, ◌^◌, ◌≤◌, ◌<◌}
use native.Mathlib.Nat.{mod-lt, mod-le, zero-add, eq-zero-or-pos}
use native.Mathlib.Omega.{arith}
use native.Mathlib.Decide.{ℕ_discrete, dec_lt}
use lib.Bits.{bit_and, bit_xor, xor_lt, xor_zero_r, and_mask}
use lib.Count.{ones, ones-le}
use lib.Pow.{pow_pos, pow-lt}
use Rattle.common.proofs.FromZero.{sum_change}
use Rattle.worldfip_sets.specs.Sets.{bit, lowest, left, served}
use Rattle.worldfip_sets.proofs.Members.{bit_none, bit_xor_law, bit_above, bit_below, same_members, ones_sum, no_ones}
use Rattle.worldfip_sets.proofs.Picks.{left_more, lowest_is, lowest_picks, out_same, out_other, served_all}

low_lt : (w x : ℕ) → x % 2 ^ w < 2 ^ w
low_lt w x = mod-lt x (pow_pos w)

-- ---- A member below w taken out

module _ (w x b : ℕ) (below : b < w) (member : bit x b ≡ 1) where
  low_same : bit (x % 2 ^ w) b ≡ bit (bit_xor x (2 ^ b) % 2 ^ w) b + 1
  low_same = omega (arith, bit_below x w b below, bit_below (bit_xor x (2 ^ b)) w b below, out_same x b member)

  low_other : (r : ℕ) → (b ≡ r → ⊥) → bit (x % 2 ^ w) r ≡ bit (bit_xor x (2 ^ b) % 2 ^ w) r
  low_other r n = go (dec_lt r w)
    where
      go : Dec (r < w) → bit (x % 2 ^ w) r ≡ bit (bit_xor x (2 ^ b) % 2 ^ w) r
      go (yes q) = bit_below x w r q ∙ sym (out_other x b member r n) ∙ sym (bit_below (bit_xor x (2 ^ b)) w r q)
      go (no q) =
          let k : w ≤ r = omega (arith, q) in
          bit_above w (x % 2 ^ w) r (low_lt w x) k ∙ sym (bit_above w (bit_xor x (2 ^ b) % 2 ^ w) r (low_lt w (bit_xor x (2 ^ b))) k)

  -- is one fewer below w
  low_fewer : ones (x % 2 ^ w) ≡ ones (bit_xor x (2 ^ b) % 2 ^ w) + 1
  low_fewer =
      let y = x % 2 ^ w in
      let z = bit_xor x (2 ^ b) % 2 ^ w in
      omega (arith, ones_sum w y (low_lt w x), ones_sum w z (low_lt w (bit_xor x (2 ^ b))), sum_change (bit y) (bit z) 1 b w below low_same low_other)

  -- and the others stay
  high_stays : x < 2 ^ 64 → bit_xor x (2 ^ b) < 2 ^ 64
      → bit_xor (bit_xor x (2 ^ b)) (bit_xor x (2 ^ b) % 2 ^ w) ≡ bit_xor x (x % 2 ^ w)
  high_stays lx ly = same_members 64 (bit_xor y (y % 2 ^ w)) (bit_xor x (x % 2 ^ w)) (within y ly) (within x lx) (λ r k. each r (ℕ_discrete b r))
    where
      y : ℕ
      y = bit_xor x (2 ^ b)

      within : (z : ℕ) → z < 2 ^ 64 → bit_xor z (z % 2 ^ w) < 2 ^ 64
      within z l = xor_lt 64 z (z % 2 ^ w) l (omega (arith, mod-le z (2 ^ w)))

      each : (r : ℕ) → Dec (b ≡ r) → bit (bit_xor y (y % 2 ^ w)) r ≡ bit (bit_xor x (x % 2 ^ w)) r
      each r (yes q) =
          rw (← q) (omega (arith, bit_xor_law y (y % 2 ^ w) b, bit_xor_law x (x % 2 ^ w) b, bit_below x w b below, bit_below y w b below))
      each r (no q) =
          omega (arith, bit_xor_law y (y % 2 ^ w) r, bit_xor_law x (x % 2 ^ w) r, low_other r q, out_other x b member r q)

-- ---- All members below w taken out, and k more

-- where there is a member below w, the lowest is
lowest_below : (w x : ℕ) → 0 < x → x < 2 ^ 64 → (x % 2 ^ w ≡ 0 → ⊥) → lowest x < w
lowest_below w x h l some = go (dec_lt (lowest x) w)
  where
    go : Dec (lowest x < w) → lowest x < w
    go (yes q) = q
    go (no q) =
        absurd (some (same_members w (x % 2 ^ w) 0 (low_lt w x) (pow_pos w)
        (λ r k. bit_below x w r k ∙ (lowest_is x h l).first r (omega (arith, q)) ∙ sym (bit_none r))))

left_past : (w k n x : ℕ) → x < 2 ^ 64 → ones (x % 2 ^ w) ≡ n → left lowest (n + k) x ≡ left lowest k (bit_xor x (x % 2 ^ w))
left_past w k zero x l e =
    let none : x % 2 ^ w ≡ 0 = no_ones w (x % 2 ^ w) (low_lt w x) e in
    rw (none, xor_zero_r, zero-add)
left_past w k (suc n) x l e = go (eq-zero-or-pos x) (left_past w k n)
  where
    some : x % 2 ^ w ≡ 0 → ⊥
    some z = omega (arith, ones-le 0 (x % 2 ^ w) (omega arith))

    go : (x ≡ 0) ⊎ (0 < x) → ((y : ℕ) → y < 2 ^ 64 → ones (y % 2 ^ w) ≡ n → left lowest (n + k) y ≡ left lowest k (bit_xor y (y % 2 ^ w)))
        → left lowest (suc n + k) x ≡ left lowest k (bit_xor x (x % 2 ^ w))
    go (inl z) ih = absurd (some (omega (arith, mod-le x (2 ^ w))))
    go (inr h) ih =
        let b = lowest x in
        let t = lowest_is x h l in
        let u : lowest x < w = lowest_below w x h l some in
        let f : bit_xor x (2 ^ lowest x) < 2 ^ 64 = xor_lt 64 x (2 ^ lowest x) l (pow-lt {i = lowest x} {j = 64} t.within) in
        let s : suc n + k ≡ suc (n + k) = omega arith in
        ap (λ (m : ℕ). left lowest m x) s
        ∙ left_more lowest (n + k) x h
        ∙ ih (bit_xor x (2 ^ lowest x)) f (omega (arith, low_fewer w x b u t.member))
        ∙ ap (left lowest k) (high_stays w x b u t.member l f)

-- ---- As the code has it: q is 2 ^ s

module _ (s x q : ℕ) (is : q ≡ 2 ^ s) where
  pub row_fits : ones (bit_and x (q - 1)) ≤ s
  row_fits = rw (is, and_mask) (ones-le s (x % 2 ^ s) (low_lt s x))

  -- all are below s
  pub row_all : x < 2 ^ 64 → bit_and x (q - 1) ≡ x → bit_and x (q - 1) ≡ served lowest s x
  row_all l e = e ∙ served_all 64 lowest (lowest_picks 64 (omega arith)) s x l (rw e at row_fits)

  -- y is what is left
  pub row_served : x < 2 ^ 64 → (y : ℕ) → y ≡ left lowest (s - ones (bit_and x (q - 1))) (bit_xor x (bit_and x (q - 1))) → bit_xor x y ≡ served lowest s x
  unfolding served
  row_served l y rest =
      let n = ones (x % 2 ^ s) in
      let e : n + (s - n) ≡ s = omega (arith, ones-le s (x % 2 ^ s) (low_lt s x)) in
      let r : y ≡ left lowest (s - n) (bit_xor x (x % 2 ^ s)) = rw (is, and_mask) at rest in
      ap (bit_xor x) (r ∙ sym (left_past s (s - n) n x l refl) ∙ ap (λ (m : ℕ). left lowest m x) e)
