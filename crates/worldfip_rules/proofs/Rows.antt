-- A builder that meets no miss has built a table, whatever its order of service; and what the order by rank serves. Assumes nothing.
use mathlib.Core.Path.{◌≡◌, sym, ap, ◌∙◌}
use Prim.Native.Nat.{ℕ, zero, suc, ◌+◌, ◌*◌, ◌≤◌, ◌<◌}
use native.Mathlib.Nat.{add-zero, add-suc, mul-mod_left, add-mod_right}
use native.Mathlib.Omega.{arith}
use lib.Pow.{pow_mono}
use Rattle.common.specs.Sums.{sum}
use Rattle.common.proofs.FromZero.{sum_same}
use Rattle.worldfip_sets.specs.Sets.{bit}
use Rattle.worldfip_sets.proofs.Members.{bit_small}
use Rattle.worldfip_sets.proofs.Picks.{left_worse}
use Rattle.worldfip_rules.specs.Table.{Asked, Sound, Table, places}
use Rattle.worldfip_rules.specs.Build.{new, Order, by_rank, pending, ready, row, late, Accepts}
use Rattle.worldfip_rules.proofs.Steps.{Picking, rank_picking, apart, hit, hit_once, new_bit, ready_below, row_below, row_few, row_bit, ready_bit, clear}

-- over w rows from row z on without a miss: served and still pending make up what was pending and what was new
pub flow : (A : Asked) (o : Order) (P : Picking A o) (r z w : ℕ) → ((m : ℕ) → m < z + w → late A o m ≡ 0)
    → sum (λ l. bit (row A o (z + l)) r) w + bit (pending A o (z + w)) r ≡ bit (pending A o z) r + sum (λ l. bit (new A (z + l)) r) w
unfolding sum
flow A o P r z zero h = rw add-zero (omega arith)
flow A o P r z (suc w) h =
    rw add-suc
    (omega (arith, flow A o P r z w (λ m l. h m (omega arith)), row_bit A o P (z + w) r, ready_bit A o (z + w) r (h (z + w) (omega arith))))

-- a period that starts in the rows ends in them
period_ends : (A : Asked) → Sound A → (r t : ℕ) → r < A.vars → t * A.period r < A.rows → t * A.period r + A.period r ≤ A.rows
period_ends A S r t l h = apart (A.period r) (t * A.period r) A.rows (mul-mod_left t (A.period r)) (S.whole r l) h

-- only the rows below `rows` count
pub table_same : (A : Asked) → Sound A → (T U : ℕ → ℕ) → ((m : ℕ) → m < A.rows → T m ≡ U m) → Table A T → Table A U
unfolding places
table_same A S T U e t =
    record {
      ranks = λ m l. rw (← e m l) (t.ranks m l);
      fits = λ m l. rw (← e m l) (t.fits m l);
      once =
          λ r k l h. (let p = period_ends A S r k l h in
          sum_same (λ j. bit (U (k * A.period r + j)) r) (λ j. bit (T (k * A.period r + j)) r) (A.period r)
          (λ j i. ap (λ (x : ℕ). bit x r) (sym (e (k * A.period r + j) (omega arith)))) ∙ t.once r k l h);
    }

module _ (A : Asked) (o : Order) (P : Picking A o) (S : Sound A) (ok : Accepts A o) where
  quiet : (m : ℕ) → m ≤ A.rows → late A o m ≡ 0
  unfolding Accepts
  quiet m l = ok m l

  once : (r t : ℕ) → r < A.vars → t * A.period r < A.rows → places (row A o) r (t * A.period r) (A.period r) ≡ 1
  unfolding places
  once r t l h =
      let p = A.period r in
      let z = t * p in
      let e = period_ends A S r t l h in
      let f = flow A o P r z p (λ m k. quiet m (omega arith)) in
      let a : bit (pending A o z) r ≡ 0 = clear A o z r (quiet z (omega arith)) l (mul-mod_left t p) in
      let b : bit (pending A o (z + p)) r ≡ 0 = clear A o (z + p) r (quiet (z + p) e) l (add-mod_right z p ∙ mul-mod_left t p) in
      let c : sum (λ k. bit (new A (z + k)) r) p ≡ 1 =
      sum_same (λ k. bit (new A (z + k)) r) (λ k. hit p (z + k)) p (λ k i. new_bit A (z + k) r l) ∙ hit_once p t (S.long r l) in
      omega arith

  pub builds : Table A (row A o)
  builds = record { ranks = λ m l. row_below A o P m; fits = λ m l. row_few A o P m; once = once }

-- what a row by rank leaves is of worse rank than all that it serves
pub row_lowest : (A : Asked) → A.vars ≤ 64 → (m a b : ℕ) → bit (row A by_rank m) a ≡ 1 → bit (pending A by_rank (suc m)) b ≡ 1 → a < b
unfolding pending ready by_rank
row_lowest A few m a b ha hb =
    let P = rank_picking A few in
    let d = row_bit A by_rank P m a in
    left_worse A.slots (ready A by_rank m) a b (omega (arith, ready_below A by_rank P m, pow_mono {i = A.vars} {j = 64} few))
    (omega (arith, d, bit_small (ready A by_rank m) a)) (omega (arith, d, bit_small (ready A by_rank m) a)) hb
