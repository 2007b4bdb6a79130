-- Laws of a look at streams: what they ask in a window, and up to which window that is the same. Assumes nothing.
use mathlib.Core.Path.{◌≡◌, refl, ap, ◌∙◌}
use mathlib.Core.List.{List}
use Prim.Native.Nat.{ℕ, ◌+◌, ◌-◌, ◌*◌, ◌≤◌, ◌<◌, min}
use native.Mathlib.Nat.{le-div_iff_mul-le}
use native.Mathlib.Omega.{arith}
use Rattle.common.specs.Sums.{upto, up}
use Rattle.common.proofs.Sums.{upto_more, upto_part, upto_mono, upto_even, up_at_most, up_covers, up_rises}
use Rattle.pnet_search.specs.Arrays.{spacing_at, jitter_at, asked_in, Spaced}

-- ---- A quotient rounded up

-- it is the same until what it covers is passed
up_same : (x y t : ℕ) → 0 < t → x ≤ y → y ≤ up x t * t → up y t ≡ up x t
up_same x y t p l h = omega (arith, up_rises x y t l, up_at_most y t (up x t) p h)

-- at least 1 where there is something to cover
up_some : (x t : ℕ) → 0 < t → 1 ≤ x → 1 ≤ up x t
unfolding up
up_some x t p l = (le-div_iff_mul-le p).1 (omega arith)

-- ---- The requests of n streams, their pairs from a place on

module _ (pairs : List ℕ) (from : ℕ) where
  -- those of stream i, counted from 1
  abbrev asks : ℕ → ℕ → ℕ
  asks w i = up (w + jitter_at pairs (from + (i - 1))) (spacing_at pairs (from + (i - 1)))

  asked_none : (w : ℕ) → 0 ≡ asked_in pairs from w 0
  unfolding asked_in upto
  asked_none w = refl

  asked_more : (w j : ℕ) → asked_in pairs from w (j + 1) ≡ asked_in pairs from w j + up (w + jitter_at pairs (from + j)) (spacing_at pairs (from + j))
  unfolding asked_in
  asked_more w j =
      let e : j + 1 - 1 ≡ j = omega arith in
      upto_more (asks w) j ∙ ap (λ (i : ℕ). upto (asks w) j + up (w + jitter_at pairs (from + i)) (spacing_at pairs (from + i))) e

  asked_part : (w j n : ℕ) → j ≤ n → asked_in pairs from w j ≤ asked_in pairs from w n
  unfolding asked_in
  asked_part w j n h = upto_part (asks w) j n h

  -- as many in a longer window
  pub asked_rises : (v w n : ℕ) → v ≤ w → asked_in pairs from v n ≤ asked_in pairs from w n
  unfolding asked_in
  asked_rises v w n l =
      upto_mono (asks v) (asks w) n
      (λ i lo hi. up_rises (v + jitter_at pairs (from + (i - 1))) (w + jitter_at pairs (from + (i - 1))) (spacing_at pairs (from + (i - 1))) (omega arith))

  module _ (w n : ℕ) (spaced : Spaced pairs from n) (some : 1 ≤ n → 1 ≤ w) where
    -- each asks at least once in a window that is not empty
    each : (i : ℕ) → 1 ≤ i → i ≤ n → 1 ≤ asks w i
    each i lo hi =
        up_some (w + jitter_at pairs (from + (i - 1))) (spacing_at pairs (from + (i - 1))) (omega (arith, spaced.less (i - 1) (omega arith))) (omega (arith, some (omega arith)))

    pub asked_each : n ≤ asked_in pairs from w n
    unfolding asked_in
    asked_each = omega (arith, upto_even 1 n, upto_mono (λ i. 1) (asks w) n each)

    -- and just once in one that is longer than T - J of none
    pub asked_once : (b : ℕ) → w ≤ b → ((j : ℕ) → j < n → b ≤ spacing_at pairs (from + j) - jitter_at pairs (from + j)) → asked_in pairs from w n ≡ n
    unfolding asked_in
    asked_once b l short = omega (arith, asked_each, upto_even 1 n, upto_mono (asks w) (λ i. 1) n once)
      where
        once : (i : ℕ) → 1 ≤ i → i ≤ n → asks w i ≤ 1
        once i lo hi =
            let less = spaced.less (i - 1) (omega arith) in
            up_at_most (w + jitter_at pairs (from + (i - 1))) (spacing_at pairs (from + (i - 1))) 1 (omega (arith, less)) (omega (arith, less, short (i - 1) (omega arith)))

-- ---- A look on its way

-- j streams ask the same in each window from one to another, and no more than s
pub record Looking (pairs : List ℕ) (from window j s asked until : ℕ) : Type 0 where
  pub few : asked ≤ s
  pub longer : window ≤ until
  pub same : (v : ℕ) → window ≤ v → v ≤ until → asked ≡ asked_in pairs from v j

pub looking_none : (pairs : List ℕ) (from window s until : ℕ) → window ≤ until → Looking pairs from window 0 s 0 until
looking_none pairs from window s until l = record { few = omega arith; longer = l; same = λ v a b. asked_none pairs from v }

module _ {pairs : List ℕ} {from window j s asked until : ℕ} (on : Looking pairs from window j s asked until) where
  -- what one stream more asks
  abbrev next : ℕ
  next = up (window + jitter_at pairs (from + j)) (spacing_at pairs (from + j))

  -- its count is the same while the window and J are covered
  pub looking_more : (u : ℕ) → 1 ≤ spacing_at pairs (from + j) → asked + next ≤ s → u ≡ min until (next * spacing_at pairs (from + j) - jitter_at pairs (from + j))
      → Looking pairs from window (j + 1) s (asked + next) u
  looking_more u some few e =
      let t = spacing_at pairs (from + j) in
      let x = jitter_at pairs (from + j) in
      let covers = up_covers (window + x) t some in
      record {
        few = few;
        longer = omega (arith, on.longer, covers);
        same = λ v a b. omega (arith, on.same v a (omega arith), asked_more pairs from v j, up_same (window + x) (v + x) t some (omega arith) (omega (arith, covers)));
      }

  -- s of them already: so it is in each longer window, of more streams
  pub looking_enough : (n : ℕ) → j < n → s ≤ asked + next → (v : ℕ) → window ≤ v → s ≡ min s (asked_in pairs from v n)
  looking_enough n h l v a =
      let b = on.same window (omega arith) on.longer in
      omega (arith, asked_more pairs from window j, asked_rises pairs from window v (j + 1) a, asked_part pairs from v (j + 1) n (omega arith))
