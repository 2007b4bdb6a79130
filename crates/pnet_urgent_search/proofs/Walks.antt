-- Laws of one walk in the block behind slot a: its next value is read off the table, and where it ends, or passes what fits into D, the search is done. Assumes nothing.
use mathlib.Core.Path.{◌≡◌, ap, ◌∙◌}
use mathlib.Core.List.{List}
use Prim.Native.Nat.{ℕ, suc, ◌+◌, ◌-◌, ◌/◌, ◌≤◌, ◌<◌}
use native.Mathlib.Nat.{div-eq_of_lt, le-div_iff_mul-le}
use native.Mathlib.Omega.{arith}
use Rattle.pnet_rules.specs.Search.{value_from}
use Rattle.pnet_rules.proofs.Sequence.{Moving, moving_none, moving_more, moving_ends, value_rises, value_at_most, moves_up}
use Rattle.pnet_turn.specs.Turn.{at}
use Rattle.pnet_urgent_search.specs.Walks.{Found}
use Rattle.pnet_urgent_search.specs.Walks.Found.{solved, none}
use Rattle.pnet_urgent_search.specs.Steps.{Shows, Walk, Starts, Sound}
use Rattle.pnet_urgent_search.specs.Steps.Walk.{onward, done}
use Rattle.pnet_urgent_search.specs.Steps.Starts.{at_one, short, behind}

-- ---- Between blocks

module _ {f : ℕ → ℕ} {most a n m : ℕ} where
  -- a walk that is behind a is on its way
  pub walk_moves : Walk f most a n m → a < n → Moving 1 f m n
  walk_moves (onward _ _ v go) l = record { value = v; moved = go }
  walk_moves (done h _) l = absurd (omega arith)

  pub walk_found : n ≤ a → Walk f most a n m → Found f most n m
  walk_found l (onward h _ _ _) = absurd (omega arith)
  walk_found l (done h found) = found

  pub walk_on : a < n → n ≤ most → Moving 1 f m n → Walk f most a n m
  walk_on l h on = onward l h on.value on.moved

-- the numbers of a walk fit 32 bits
pub walk_sound : {f : ℕ → ℕ} {most a n m : ℕ} → ((x y : ℕ) → x ≤ y → f x ≤ f y) → ((x : ℕ) → 1 ≤ f x) → Walk f most a n m → Sound most a n m
walk_sound {f} {m = m} rises some (onward l h v go) = record { fits = h; few = λ _. omega (arith, v, moves_up 1 f rises (some 1) m go) }
walk_sound rises some (done l (solved lo hi v s)) = record { fits = hi; few = λ h. absurd (omega arith) }
walk_sound rises some (done l (none e lone)) = record { fits = omega (arith, e); few = λ h. absurd (omega arith) }

-- ---- In a block

-- a walk stands at n, and x is what the table has for it
module _ {f : ℕ → ℕ} {table : List ℕ} {a c most : ℕ} (shows : Shows f table a c most) {m n : ℕ} (x : ℕ)
    (on : Moving 1 f m n) (lo : a < n) (hi : n ≤ a + 512) (fits : n ≤ most) (next : x ≡ c + at table (n - a - 1)) where
  next_right : x ≡ f n
  next_right =
      let e : a + (n - a - 1) + 1 ≡ n = omega arith in
      next ∙ (shows.right (n - a - 1) (omega arith) (omega arith) ∙ ap f e)

  next_rises : n ≤ x
  unfolding value_from
  next_rises = omega (arith, on.value, next_right, ap f on.value, value_rises 1 f shows.rises (shows.some 1) m)

  pub walk_more : n < x → Moving 1 f (m + 1) x
  walk_more l = moving_more 1 f m n x on next_right (λ e. omega (arith, e))

  pub walk_ends : x ≤ n → Walk f most (a + 512) n m
  walk_ends l =
      let e : x ≡ n = omega (arith, next_rises) in
      done hi (solved (omega arith) fits on.value (moving_ends 1 f m n x on next_right e))

  -- no solution is below a value of the search
  pub walk_refused : most < x → Walk f most (a + 512) 0 m
  unfolding value_from
  walk_refused l =
      done (omega arith)
      (none (omega arith)
      (λ w e. omega (arith, next_right, ap f on.value, value_at_most 1 f shows.rises (shows.some 1) w (omega (arith, e)) (omega (arith, e, shows.some w)) (suc m))))

-- ---- At slot 0

-- how a walk starts, for a right side that is at least one slot, and has no solution where the stream is not among the first
pub walk_starts : {f : ℕ → ℕ} {V' D walks i n m : ℕ} → 0 < V' → ((x : ℕ) → 1 ≤ f x) → (walks ≤ i → (w : ℕ) → w ≡ f w → ⊥)
    → Starts V' D walks i n → m ≡ 0 → Walk f (D / V') 0 n m
walk_starts {f} {V'} {D} pos some never (at_one l h e) z =
    let q : 1 ≤ D / V' = (le-div_iff_mul-le pos).1 (omega arith) in
    rw (e, z) (walk_on (omega arith) q (moving_none 1 f))
walk_starts {f} {V'} {D} pos some never (short h e) z =
    let q : D / V' ≡ 0 = div-eq_of_lt h in
    done (omega (arith, e)) (none e (λ w s. omega (arith, q, some w, s)))
walk_starts pos some never (behind h e) z = done (omega (arith, e)) (none e (λ w s. absurd (never h w s)))

pub starts_none : {V' D walks i n : ℕ} → walks ≤ i → Starts V' D walks i n → n ≡ 0
starts_none h (at_one l _ _) = absurd (omega arith)
starts_none h (short _ e) = e
starts_none h (behind _ e) = e

-- ---- The code carries a walk

-- a walk that stood at n after m rounds, in the block behind a, has come to slot k after j
pub record Carrying (table : List ℕ) (a c most n m k j : ℕ) : Type 0 where
  pub behind : a < k
  pub fits : k ≤ most
  pub few : j < k
  pub goes : (f : ℕ → ℕ) → Shows f table a c most → Walk f most a n m → Moving 1 f j k

module _ {table : List ℕ} {a c most n m k j : ℕ} (on : Carrying table a c most n m k j) where
  module _ (x : ℕ) (hi : k ≤ a + 512) (next : x ≡ c + at table (k - a - 1)) where
    pub carrying_more : k < x → x ≤ most → Carrying table a c most n m x (j + 1)
    carrying_more l h =
        record {
          behind = omega (arith, on.behind);
          fits = h;
          few = omega (arith, on.few);
          goes = λ f shows w. walk_more shows x (on.goes f shows w) on.behind hi on.fits next l;
        }

    pub carrying_ends : x ≤ k → (f : ℕ → ℕ) → Shows f table a c most → Walk f most a n m → Walk f most (a + 512) k j
    carrying_ends l f shows w = walk_ends shows x (on.goes f shows w) on.behind hi on.fits next l

    pub carrying_refused : most < x → (f : ℕ → ℕ) → Shows f table a c most → Walk f most a n m → Walk f most (a + 512) 0 j
    carrying_refused l f shows w = walk_refused shows x (on.goes f shows w) on.behind hi on.fits next l
