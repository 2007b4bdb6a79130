-- The numbers of a record in range fit the bytes of their fields: one computed test over the page's table. Assumes nothing.
use mathlib.Core.Path.{◌≡◌, refl, sym}
use mathlib.Core.Bool.{Bool, true, false, ◌&&◌, true≢false}
use mathlib.Core.List.{List, [], ◌∷◌}
use Prim.Native.Nat.{ℕ, zero, suc, ◌^◌, ◌≤◌, ◌<◌}
use native.Mathlib.Omega.{arith}
use borrow.Author.Tests.{ltb-true, eqb-true}
use lib.Dec.{ltb, eqb}
use lib.ListN.{length, get_or}
use Rattle.sheet_record.specs.declared.Given.{Given}
use Rattle.sheet_record.specs.declared.Record.{Record}
use Rattle.sheet_record.specs.Kinds.{Field, Limit, kinds, fields_of, numbers, limit, within, ranged, in_range}
use Rattle.sheet_record.specs.Kinds.Limit.{is, masters, message, own, under, less}
use Rattle.sheet_record.proofs.Tables.{both_true, at_every_kind, fields_at_most}
use Rattle.sheet_ranges.proofs.Ranges.{within_range}

-- each number fits its field, and is 0 where there is no field
pub data Fit : List Field → List ℕ → Type 0 where
  none : Fit [] []
  over : {x : ℕ} {xs : List ℕ} → x ≡ 0 → Fit [] xs → Fit [] (x ∷ xs)
  more : {f : Field} {fs : List Field} {x : ℕ} {xs : List ℕ} → x < 256 ^ f.width → Fit fs xs → Fit (f ∷ fs) (x ∷ xs)

-- ---- The test

-- a limit is less than m, with 32 masters and a longest message of 100,000, which are the most that there are; one that another field sets is so
-- if the test `other` says it of that field
abbrev below : (ℕ → Bool) → ℕ → Limit → Bool
below other m (is n) = ltb n m
below other m masters = ltb 32 m
below other m message = ltb 100000 m
below other m (own i) = other i
below other m (under i) = other i
below other m (less i j) = other i

-- field i's own limit is less than m, and no other field sets it; 0 where there is no field
abbrev below_at : ℕ → List Field → ℕ → Bool
below_at m [] i = ltb 0 m
below_at m (f ∷ fs) zero = below (λ i. false) m f.most
below_at m (f ∷ fs) (suc i) = below_at m fs i

-- every limit of these fields, which are some of `all`, fits its field's bytes
abbrev roomy : List Field → List Field → Bool
roomy all [] = true
roomy all (f ∷ fs) = below (below_at (256 ^ f.width) all) (256 ^ f.width) f.most && roomy all fs

-- ---- What it shows

module _ (g : Given) (few : g.masters ≤ 32) (short : g.message ≤ 100000) (r : Record) where
  limit_below : (other : ℕ → Bool) (m : ℕ) → ((i : ℕ) → other i ≡ true → get_or (numbers r) i 0 < m)
      → (l : Limit) → below other m l ≡ true → limit g r l < m
  unfolding limit
  limit_below other m h (is n) q = ltb-true n m q
  limit_below other m h masters q = omega (arith, ltb-true 32 m q)
  limit_below other m h message q = omega (arith, ltb-true 100000 m q)
  limit_below other m h (own i) q = h i q
  limit_below other m h (under i) q = omega (arith, h i q)
  limit_below other m h (less i j) q = omega (arith, h i q)

  -- a limit that no other field sets
  plain_below : (m : ℕ) (l : Limit) → below (λ i. false) m l ≡ true → limit g r l < m
  plain_below m = limit_below (λ i. false) m (λ i e. absurd (true≢false (sym e)))

  number_below : (m : ℕ) (fs : List Field) (xs : List ℕ) (i : ℕ) → ranged g r fs xs ≡ true → below_at m fs i ≡ true → get_or xs i 0 < m
  unfolding ranged
  number_below m [] [] i e q = ltb-true 0 m q
  number_below m [] (x ∷ xs) zero e q = omega (arith, ltb-true 0 m q, eqb-true x 0 (both_true (eqb x 0) (ranged g r [] xs) e).0)
  number_below m [] (x ∷ xs) (suc i) e q = number_below m [] xs i (both_true (eqb x 0) (ranged g r [] xs) e).1 q
  number_below m (f ∷ fs) [] zero e q = omega (arith, plain_below m f.most q)
  number_below m (f ∷ fs) [] (suc i) e q = number_below m fs [] i e q
  number_below m (f ∷ fs) (x ∷ xs) zero e q =
      let b = both_true (within f.least x (limit g r f.most)) (ranged g r fs xs) e in
      omega (arith, (within_range f.least x (limit g r f.most) b.0).most, plain_below m f.most q)
  number_below m (f ∷ fs) (x ∷ xs) (suc i) e q =
      number_below m fs xs i (both_true (within f.least x (limit g r f.most)) (ranged g r fs xs) e).1 q

  module _ (all : List Field) (in_all : ranged g r all (numbers r) ≡ true) where
    ranged_fits : (fs : List Field) (xs : List ℕ) → length fs ≤ length xs → roomy all fs ≡ true → ranged g r fs xs ≡ true → Fit fs xs
    unfolding ranged
    ranged_fits [] [] l q e = none
    ranged_fits [] (x ∷ xs) l q e =
        let b = both_true (eqb x 0) (ranged g r [] xs) e in
        over (eqb-true x 0 b.0) (ranged_fits [] xs (omega arith) q b.1)
    ranged_fits (f ∷ fs) [] l q e = absurd (omega arith)
    ranged_fits (f ∷ fs) (x ∷ xs) l q e =
        let m = 256 ^ f.width in
        let b = both_true (within f.least x (limit g r f.most)) (ranged g r fs xs) e in
        let t = both_true (below (below_at m all) m f.most) (roomy all fs) q in
        let w = within_range f.least x (limit g r f.most) b.0 in
        let s = limit_below (below_at m all) m (λ i. number_below m all (numbers r) i in_all) f.most t.0 in
        let h : x < m = omega (arith, w.most, s) in
        more h (ranged_fits fs xs (omega arith) t.1 b.1)

  -- a record in range fits its fields
  pub in_range_fits : in_range g r ≡ true → Fit (fields_of r.kind) (numbers r)
  unfolding in_range kinds
  in_range_fits e =
      let fs = fields_of r.kind in
      ranged_fits fs e fs (numbers r) (fields_at_most r.kind) (at_every_kind (λ fs. roomy fs fs) refl refl r.kind) e
