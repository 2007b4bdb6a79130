-- One row of the builder, and the earliest miss, as the code finds them. Assumes nothing.
use mathlib.Core.Path.{◌≡◌, sym, ◌∙◌, subst}
use mathlib.Core.Bool.{true, false}
use mathlib.Core.List.{List}
use Prim.Native.Nat.{ℕ, suc, ◌+◌, ◌^◌, ◌≤◌, ◌<◌}
use native.Mathlib.Numerals.{add-one}
use native.Mathlib.Nat.{zero-add}
use native.Mathlib.Omega.{arith}
use native.Mathlib.Decide.{ℕ_discrete}
use lib.Bits.{bit_or, bit_and, bit_xor}
use lib.ListN.{length, get_or, set}
use lib.Seq.{get_or-set_same, get_or-set_other}
use borrow.Author.Tests.{lt-ltb, le-ltb, le-leb, lt-leb}
use Rattle.common.proofs.Firsts.{first_hit, first_none}
use Rattle.worldfip_sets.specs.Sets.{lowest, served}
use Rattle.worldfip_sets.proofs.Picks.{lowest_picks, served_rest}
use Rattle.worldfip_rules.specs.Table.{Asked}
use Rattle.worldfip_rules.specs.Build.{new, by_rank, pending, ready, row, late, miss_at, miss_row}
use Rattle.worldfip_rules.proofs.Steps.{rank_picking, ready_below}
use Rattle.worldfip_plan.specs.Held.{missing}

-- ---- One row

module _ (A : Asked) (few : A.vars ≤ 64) (m p w : ℕ) (ep : p ≡ pending A by_rank m) (ew : w ≡ new A m) where
  pub late_is : bit_and p w ≡ late A by_rank m
  unfolding late
  late_is = rw (ep, ew)

  pub miss_yes : (bit_and p w ≡ 0 → ⊥) → miss_at A by_rank m ≡ true
  unfolding miss_at
  miss_yes h = rw (← late_is) (lt-ltb 0 (bit_and p w) (omega (arith, h)))

  pub miss_no : bit_and p w ≡ 0 → miss_at A by_rank m ≡ false
  unfolding miss_at
  miss_no h = rw (← late_is) (le-ltb 0 (bit_and p w) (omega (arith, h)))

  module _ (y : ℕ) (ey : y ≡ served lowest A.slots (bit_or p w)) where
    pub row_is : y ≡ row A by_rank m
    unfolding row ready by_rank
    row_is = rw (← ep, ← ew) ey

    pub pending_more : bit_xor (bit_or p w) y ≡ pending A by_rank (m + 1)
    unfolding pending ready by_rank
    pending_more =
        rw (add-one, ← ep, ← ew, ey)
        (served_rest A.vars lowest (lowest_picks A.vars few) A.slots (bit_or p w) below)
      where
        below : bit_or p w < 2 ^ A.vars
        below = rw (ep, ew) (ready_below A by_rank (rank_picking A few) m)

-- ---- The earliest miss

module _ (A : Asked) (m : ℕ) (none : (j : ℕ) → j < m → miss_at A by_rank j ≡ false) where
  pub missing_here : m ≤ A.rows → miss_at A by_rank m ≡ true → (x : ℕ) → x ≡ late A by_rank m → x ≡ missing A
  unfolding missing
  missing_here l h x e =
      let r : miss_row A by_rank ≡ m = found in
      rw r (e ∙ sym (simp (le-leb m A.rows l)))
    where
      found : miss_row A by_rank ≡ m
      found =
          first_hit (miss_at A by_rank) m 0 (suc A.rows) (λ j lo hi. none j (omega arith))
          (subst (λ (k : ℕ). miss_at A by_rank k ≡ true) (sym (zero-add m)) h) (omega arith)
          ∙ zero-add m

  pub missing_nowhere : A.rows < m → 0 ≡ missing A
  unfolding missing miss_row
  missing_nowhere l =
      let r : miss_row A by_rank ≡ 0 + suc A.rows = first_none (miss_at A by_rank) 0 (suc A.rows) (λ j lo hi. none j (omega arith)) in
      sym (simp (lt-leb (miss_row A by_rank) A.rows (omega (arith, r))))

-- ---- The rows so far, and the requests still to come

module _ (f g : ℕ → ℕ) (t : List ℕ) (m rows y : ℕ) (lt : m < length t) (ey : y ≡ f m) where
  pub rows_more : ((j : ℕ) → j < m → get_or t j 0 ≡ f j) → (j : ℕ) → j < m + 1 → get_or (set t m y) j 0 ≡ f j
  rows_more h j l = go (ℕ_discrete j m)
    where
      go : Dec (j ≡ m) → get_or (set t m y) j 0 ≡ f j
      go (yes q) = rw q (get_or-set_same t m y 0 lt ∙ ey)
      go (no q) = get_or-set_other t m j y 0 q ∙ h j (omega (arith, q))

  pub requests_less : ((j : ℕ) → m ≤ j → j ≤ rows → get_or t j 0 ≡ g j) → (j : ℕ) → m + 1 ≤ j → j ≤ rows → get_or (set t m y) j 0 ≡ g j
  requests_less h j lo hi = get_or-set_other t m j y 0 (λ (q : j ≡ m). omega arith) ∙ h j (omega arith) hi
