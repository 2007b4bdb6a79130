-- What lies between the token and master k on the ring, under a charge h for each master. Assumes nothing.
use Prim.Native.Nat.{ℕ, zero, suc, ◌+◌, ◌-◌, ◌≤◌, ◌<◌}
use mathlib.Core.Path.{◌≡◌, refl, ap}
use mathlib.Core.Bool.{cond}
use mathlib.Core.Logic.{◌≢◌}
use native.Mathlib.Nat.{le_refl, le_of_suc-le-suc, not-suc-le-zero}
use native.Mathlib.Decide.{ℕ_discrete, dec_le}
use native.Mathlib.Omega.{arith}
use lib.Dec.{leb}
use borrow.Author.Tests.{eq-eqb, ne_eqb, le-leb, lt-leb}
use Rattle.common.specs.Sums.{upto}
use Rattle.common.proofs.Sums.{upto_part, upto_even}
use Rattle.pnet_run.specs.Run.{next}

-- ---- The next master

pub next_last : (n : ℕ) → next n n ≡ 1
unfolding next
next_last n = rw (eq-eqb n n refl)

pub next_more : (n m : ℕ) → m ≢ n → next n m ≡ suc m
unfolding next
next_more n m h = rw (ne_eqb m n h)

pub next_in_ring : (n m : ℕ) → 1 ≤ n → m ≤ n → (1 ≤ next n m) × (next n m ≤ n)
next_in_ring n m a b = go (ℕ_discrete m n)
  where
    go : Dec (m ≡ n) → (1 ≤ next n m) × (next n m ≤ n)
    go (yes e) = rw (e, next_last n) (omega arith)
    go (no e) = rw (next_more n m e) (omega arith)

-- ---- The way to k

module _ (h : ℕ → ℕ) where
  -- the charges up to k, and that of a later m
  upto_and : (k m : ℕ) → k < m → upto h k + h m ≤ upto h m
  unfolding upto
  upto_and k zero l = absurd (not-suc-le-zero l)
  upto_and k (suc m) l = omega (arith, upto_part h k m (le_of_suc-le-suc l))

  module _ (n k : ℕ) where
    -- the charges of the masters behind m, up to k itself
    pub gap : ℕ → ℕ
    gap m = cond (leb m k) (upto h k) (upto h k + upto h n) - upto h m

    gap_upto : {m : ℕ} → m ≤ k → gap m ≡ upto h k - upto h m
    unfolding gap
    gap_upto {m} l = rw (le-leb m k l)

    gap_over : {m : ℕ} → k < m → gap m ≡ upto h k + upto h n - upto h m
    unfolding gap
    gap_over {m} l = rw (lt-leb m k l)

    pub gap_own : gap k ≡ 0
    gap_own = omega (arith, gap_upto (le_refl k))

    module _ (1≤k : 1 ≤ k) (k≤n : k ≤ n) where
      first : upto h 1 ≡ h 1
      unfolding upto
      first = omega arith

      -- one master on
      pub gap_next : (m : ℕ) → m ≤ n → m ≢ k → gap m ≡ h (next n m) + gap (next n m)
      unfolding upto
      gap_next m l ne = go (dec_le m k) (ℕ_discrete m n)
        where
          go : Dec (m ≤ k) → Dec (m ≡ n) → gap m ≡ h (next n m) + gap (next n m)
          go (yes a) (yes e) = absurd (ne (omega arith))
          go (yes a) (no e) = rw (next_more n m e) (omega (arith, gap_upto a, gap_upto {m = suc m} (omega arith), upto_part h (suc m) k (omega arith)))
          go (no a) (yes e) = rw (e, next_last n) (omega (arith, gap_over {m = n} (omega arith), gap_upto 1≤k, upto_part h 1 k 1≤k, first))
          go (no a) (no e) = rw (next_more n m e) (omega (arith, gap_over {m = m} (omega arith), gap_over {m = suc m} (omega arith), upto_part h (suc m) n (omega arith)))

      -- from k all round to k
      pub gap_lap : h (next n k) + gap (next n k) ≡ upto h n
      unfolding upto
      gap_lap = go (ℕ_discrete k n)
        where
          go : Dec (k ≡ n) → h (next n k) + gap (next n k) ≡ upto h n
          go (yes e) = rw (ap (next n) e, next_last n) (omega (arith, gap_upto 1≤k, upto_part h 1 k 1≤k, first, ap (upto h) e))
          go (no e) = rw (next_more n k e) (omega (arith, gap_over {m = suc k} (omega arith), upto_part h (suc k) n (omega arith)))

      -- no way round is longer than a whole turn, and each has k itself at its end
      pub gap_most : (m : ℕ) → 1 ≤ m → m ≤ n → h m + gap m ≤ upto h n
      gap_most m a b = go (dec_le m k)
        where
          go : Dec (m ≤ k) → h m + gap m ≤ upto h n
          go (yes l) = omega (arith, gap_upto l, upto_and 0 m a, upto_part h m k l, upto_part h k n k≤n)
          go (no l) = omega (arith, gap_over {m = m} (omega arith), upto_and k m (omega arith), upto_part h m n b)

      pub gap_least : (m : ℕ) → m ≤ n → h k ≤ h m + gap m
      gap_least m b = go (ℕ_discrete m k) (dec_le m k)
        where
          go : Dec (m ≡ k) → Dec (m ≤ k) → h k ≤ h m + gap m
          go (yes e) d = omega (arith, ap h e)
          go (no e) (yes l) = omega (arith, gap_upto l, upto_and m k (omega arith))
          go (no e) (no l) = omega (arith, gap_over {m = m} (omega arith), upto_and 0 k 1≤k, upto_part h m n b)

-- ---- Counting masters

-- no two masters are equally many masters before k
pub gap_apart : (n k : ℕ) {y m : ℕ} → 1 ≤ y → y ≤ n → 1 ≤ m → m ≤ n → gap (λ z. 1) n k y ≡ gap (λ z. 1) n k m → y ≡ m
gap_apart n k {y} {m} a b c d e = go (dec_le y k) (dec_le m k)
  where
    is : (x : ℕ) → upto (λ z. 1) x ≡ x
    is x = omega (arith, upto_even 1 x)

    under : {x : ℕ} → x ≤ k → gap (λ z. 1) n k x ≡ k - x
    under {x} l = omega (arith, gap_upto (λ z. 1) n k l, is k, is x)

    over : {x : ℕ} → k < x → gap (λ z. 1) n k x ≡ k + n - x
    over {x} l = omega (arith, gap_over (λ z. 1) n k l, is k, is n, is x)

    go : Dec (y ≤ k) → Dec (m ≤ k) → y ≡ m
    go (yes l) (yes r) = omega (arith, under l, under r)
    go (yes l) (no r) = omega (arith, under l, over {x = m} (omega arith))
    go (no l) (yes r) = omega (arith, over {x = y} (omega arith), under r)
    go (no l) (no r) = omega (arith, over {x = y} (omega arith), over {x = m} (omega arith))
