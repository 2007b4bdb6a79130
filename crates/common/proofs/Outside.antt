-- A number out of a range, as code tests it, below or above, and as a definition has it. Assumes nothing.
use Prim.Native.Nat.{ℕ, ◌≤◌, ◌<◌}
use mathlib.Core.Path.{◌≡◌, refl}
use mathlib.Core.Bool.{Bool, true, false, not, ◌&&◌, ◌||◌, true≢false}
use native.Mathlib.Decide.{dec_le}
use native.Mathlib.Omega.{arith}
use borrow.Author.Tests.{lt-ltb, le-ltb, le-leb, lt-leb, ltb-false}
use lib.Dec.{leb, ltb}

below_is : (x y : ℕ) → ltb x y ≡ not (leb y x)
below_is x y = split (dec_le y x)
  where
    split : Dec (y ≤ x) → ltb x y ≡ not (leb y x)
    split (yes l) = simp (le-ltb x y l, le-leb y x l)
    split (no n) =
        let l : x < y = omega (arith, n) in
        simp (lt-ltb x y l, lt-leb y x l)

module _ (lo x hi : ℕ) where
  pub outside_is : not (leb lo x && leb x hi) ≡ (ltb x lo || ltb hi x)
  outside_is = rw (below_is x lo, below_is hi x) (either (leb lo x) (leb x hi))
    where
      either : (a b : Bool) → not (a && b) ≡ (not a || not b)
      either true b = refl
      either false b = refl

  pub inside : (ltb x lo || ltb hi x) ≡ false → (lo ≤ x) × (x ≤ hi)
  inside e = by (ltb x lo) (ltb hi x) refl refl e
    where
      by : (a b : Bool) → ltb x lo ≡ a → ltb hi x ≡ b → (a || b) ≡ false → (lo ≤ x) × (x ≤ hi)
      by false false p q h = (ltb-false x lo p, ltb-false hi x q)
      by false true p q h = absurd (true≢false h)
      by true b p q h = absurd (true≢false h)
