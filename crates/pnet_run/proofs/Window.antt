-- How often a stream that keeps its spacing can ask in a window: at most n times where the window and its jitter are no longer than n
-- spacings. Assumes nothing.
use Prim.Native.Nat.{ℕ, suc, ◌+◌, ◌-◌, ◌*◌, ◌≤◌, ◌<◌}
use mathlib.Core.Path.{◌≡◌, refl, ap}
use mathlib.Core.Bool.{Bool, true, false, ◌&&◌}
use mathlib.Core.List.Memᴰ
use mathlib.Core.List.{List, [], ◌∷◌, map, Memᴰ}
use native.Mathlib.Nat.{mul-le-mul_right}
use native.Mathlib.Decide.{dec_le}
use native.Mathlib.Omega.{arith}
use lib.Dec.{eqb, leb}
use borrow.Author.Tests.{eq-eqb, ne_eqb, eqb-true, leb-true, le-leb}
use Rattle.common.specs.Sums.{when}
use Rattle.pnet_run.specs.Run.{Request, request}
use Rattle.pnet_run.specs.Promise.{Kept, quiet, other, asks, Apart, none, and}
use Rattle.pnet_run.proofs.Counts.{came_since}
use Rattle.pnet_run.proofs.Spacing.{InOrder, came_of, due_apart}

-- ---- Arrivals T apart

-- each request since lo is T above the one before it, so the latest is far above lo
climb : {T i : ℕ} (lo : ℕ) (l : List Request) → Apart T i l → (top : ℕ) → lo ≤ top → ((a : ℕ) → Memᴰ (request i a) l → a + T ≤ top)
    → lo + came_since i lo l * T ≤ top
unfolding came_since
climb lo [] none top b below = omega arith
climb {T} {i} lo (r ∷ l) (and apart rest) top b below = go (climb lo l rest) (eqb r.of i) refl (leb lo r.since) refl
  where
    Below : ℕ → Type 0
    Below u = (a : ℕ) → Memᴰ (request i a) l → a + T ≤ u

    go : ((u : ℕ) → lo ≤ u → Below u → lo + came_since i lo l * T ≤ u) → (x : Bool) → eqb r.of i ≡ x → (y : Bool) → leb lo r.since ≡ y
        → lo + (when (x && y) 1 + came_since i lo l) * T ≤ top
    go ih true e true g =
        let own : r.of ≡ i = eqb-true r.of i e in
        omega (arith, ih r.since (leb-true lo r.since g) (apart own), below r.since (Memᴰ.head (rw (← own))))
    go ih true e false g = omega (arith, ih top b (λ a j. below a (Memᴰ.tail j)))
    go ih false e y g = omega (arith, ih top b (λ a j. below a (Memᴰ.tail j)))

window : {T i : ℕ} (lo hi n : ℕ) → 1 ≤ T → lo ≤ hi → (l : List Request) → Apart T i l → ((a : ℕ) → Memᴰ (request i a) l → a < hi)
    → hi ≤ lo + n * T → came_since i lo l ≤ n
window {T} {i} lo hi n p d l apart before short = go (dec_le (came_since i lo l) n)
  where
    go : Dec (came_since i lo l ≤ n) → came_since i lo l ≤ n
    go (yes c) = c
    go (no c) =
        let m : suc n * T ≤ came_since i lo l * T = mul-le-mul_right T (omega arith) in
        absurd (omega (arith, climb lo l apart (hi + T - 1) (omega arith) (λ a j. omega (arith, before a j))))

-- ---- Arrivals up to J behind nominal times that are T apart

-- the instants J behind the nominal times are counted in place of the arrivals: none of them is earlier than its arrival
counted_by_due : {T J i : ℕ} {came : List Request} {due : List ℕ} (lo : ℕ) → Kept T J i came due
    → came_since i lo came ≤ came_since i lo (map (request i) due)
unfolding came_since
counted_by_due lo quiet = omega arith
counted_by_due {i = i} lo (other {r = r} n kept) = rw (ne_eqb r.of i n) (omega (arith, counted_by_due lo kept))
counted_by_due {i = i} lo (asks {r = r} {came = came} {due = due} u own from to far kept) =
    rw (eq-eqb r.of i own, eq-eqb i i refl) (go (leb lo r.since) refl (counted_by_due lo kept))
  where
    go : (x : Bool) → leb lo r.since ≡ x → came_since i lo came ≤ came_since i lo (map (request i) due)
        → when x 1 + came_since i lo came ≤ when (leb lo u) 1 + came_since i lo (map (request i) due)
    go true e l = rw (le-leb lo u (omega (arith, leb-true lo r.since e))) (omega arith)
    go false e l = omega arith

-- they are T apart, from lo to J behind hi
pub window_with_jitter : {T J i : ℕ} {came : List Request} {due : List ℕ} (lo hi n : ℕ) → J < T → lo ≤ hi → InOrder came → Kept T J i came due
    → ((a : ℕ) → Memᴰ (request i a) came → a < hi) → hi + J ≤ lo + n * T → came_since i lo came ≤ n
window_with_jitter {J = J} {i = i} {due = due} lo hi n short d order kept before enough =
    omega (
      arith,
      counted_by_due lo kept,
      window lo (hi + J) n (omega arith) (omega arith) (map (request i) due) (due_apart short order kept) (λ a j. by_then a (Memᴰ.of_map (request i) due j))
          (omega arith),
    )
  where
    by_then : (a : ℕ) → (v : ℕ) × Memᴰ v due × (request i v ≡ request i a) → a < hi + J
    by_then a v =
        let w = came_of kept v.0 v.1 in
        omega (arith, before w.0 w.1, w.3, ap (λ (r : Request). r.since) v.2)
