-- Page 01, 'Sheet records': the walk from record to record, by places and by records. Assumes nothing.
use mathlib.Core.Path.{◌≡◌, refl, ap, ◌∙◌}
use mathlib.Core.Bool.{Bool, true, false, cond}
use mathlib.Core.List.{List, [], ◌∷◌, ◌++◌}
use Prim.Native.Nat.{ℕ, zero, suc, ◌≤◌, ◌<◌}
use native.Mathlib.Nat.{le_refl, not-suc-le-zero}
use native.Mathlib.Numerals.{add-one}
use native.Mathlib.Omega.{arith}
use native.Mathlib.Decide.{ℕ_discrete}
use lib.ListN.{length, get_or, take, length-append, get_or-append}
use lib.Seq.{get_or_at, take-append-le, take_all}
use Rattle.sheet_record.specs.declared.Record.{Record}
use Rattle.sheet_record.specs.Kinds.{size_of, decode, nothing, is_setting, is_stream}
use Rattle.sheet_rules.specs.Sheets.{head_of, having, sheet_of}
use Rattle.sheet_rules.specs.Whole.{place_of, records_of, before}

-- ---- Records of such a kind

module _ (such : ℕ → Bool) where
  pub having_append : (rs qs : List Record) → having such (rs ++ qs) ≡ having such rs ++ having such qs
  unfolding having
  having_append [] qs = refl
  having_append (r ∷ rs) qs = split (such r.kind) (having_append rs qs)
    where
      split : (b : Bool) → having such (rs ++ qs) ≡ having such rs ++ having such qs
          → cond b (r ∷ having such (rs ++ qs)) (having such (rs ++ qs)) ≡ cond b (r ∷ having such rs) (having such rs) ++ having such qs
      split true e = ap (λ (t : List Record). r ∷ t) e
      split false e = e

  -- one record alone
  pub having_it : (r : Record) → such r.kind ≡ true → having such (r ∷ []) ≡ r ∷ []
  unfolding having
  having_it r e = rw e

  pub not_having : (r : Record) → such r.kind ≡ false → having such (r ∷ []) ≡ []
  unfolding having
  not_having r e = rw e

-- ---- Records that come one by one

-- of which the first n are xs n
module _ (xs : ℕ → List Record) (x : ℕ → Record) (none : xs 0 ≡ []) (more : (n : ℕ) → xs (suc n) ≡ xs n ++ (x n ∷ [])) where
  pub grown_length : (n : ℕ) → length (xs n) ≡ n
  grown_length zero = ap length none
  grown_length (suc n) = ap length (more n) ∙ simp (length-append, grown_length n) (add-one n)

  pub grown_at : (n i : ℕ) → i < n → get_or (xs n) i nothing ≡ x i
  grown_at zero i h = absurd (not-suc-le-zero h)
  grown_at (suc n) i h = ap (λ (rs : List Record). get_or rs i nothing) (more n) ∙ split (ℕ_discrete i n) (grown_at n i)
    where
      split : Dec (i ≡ n) → (i < n → get_or (xs n) i nothing ≡ x i) → get_or (xs n ++ (x n ∷ [])) i nothing ≡ x i
      split (yes e) ih = rw e (get_or_at (xs n) (x n) [] nothing n (grown_length n))
      split (no e) ih =
          let l : i < n = omega (arith, e) in
          get_or-append (xs n) (x n ∷ []) nothing i (omega (arith, grown_length n)) ∙ ih l

  pub grown_front : (n i : ℕ) → i ≤ n → take i (xs n) ≡ xs i
  grown_front zero i h = let e : i ≡ 0 = omega arith in rw (e, none)
  grown_front (suc n) i h = split (ℕ_discrete i (suc n)) (grown_front n i)
    where
      split : Dec (i ≡ suc n) → (i ≤ n → take i (xs n) ≡ xs i) → take i (xs (suc n)) ≡ xs i
      split (yes e) ih = rw e (take_all (suc n) (xs (suc n)) (omega (arith, grown_length (suc n))))
      split (no e) ih =
          let l : i ≤ n = omega (arith, e) in
          ap (take i) (more n) ∙ take-append-le i (xs n) (x n ∷ []) (omega (arith, grown_length n)) ∙ ih l

-- ---- Places

module _ (s : List ℕ) where
  -- a record has a byte at least
  pub place_next : (i : ℕ) → place_of s i < place_of s (suc i)
  unfolding place_of size_of
  place_next i = omega arith

  -- so record i stands at place i or later
  pub place_from : (i : ℕ) → i ≤ place_of s i
  place_from zero = omega arith
  place_from (suc i) = omega (arith, place_from i, place_next i)

  -- and a later one stands no earlier
  pub place_order : (i j : ℕ) → i ≤ j → place_of s i ≤ place_of s j
  place_order i zero h = let e : i ≡ 0 = omega arith in rw e (le_refl (place_of s 0))
  place_order i (suc j) h = split (ℕ_discrete i (suc j)) (place_order i j)
    where
      split : Dec (i ≡ suc j) → (i ≤ j → place_of s i ≤ place_of s j) → place_of s i ≤ place_of s (suc j)
      split (yes e) ih = rw e (le_refl (place_of s (suc j)))
      split (no e) ih = let l : i ≤ j = omega (arith, e) in omega (arith, ih l, place_next j)

  -- ---- Records

  pub length_records : (n : ℕ) → length (records_of s n) ≡ n
  unfolding records_of
  length_records = grown_length (records_of s) (λ n. decode s (place_of s n)) refl (λ n. refl)

  pub record_at : (n i : ℕ) → i < n → get_or (records_of s n) i nothing ≡ decode s (place_of s i)
  unfolding records_of
  record_at = grown_at (records_of s) (λ n. decode s (place_of s n)) refl (λ n. refl)

  -- the records so far are the front of the later ones
  pub records_front : (n i : ℕ) → i ≤ n → take i (records_of s n) ≡ records_of s i
  unfolding records_of
  records_front = grown_front (records_of s) (λ n. decode s (place_of s n)) refl (λ n. refl)

  -- the first record stands at 0, whatever comes behind it
  pub head_at : (n : ℕ) → (before s (suc n)).head ≡ decode s 0
  unfolding before sheet_of head_of place_of
  head_at n = record_at (suc n) 0 (omega arith)

  -- ---- What stands before the next record

  -- before the first, nothing
  pub before_none : before s 0 ≡ sheet_of []
  unfolding before records_of
  before_none = refl

  -- behind record i, its settings and its streams are those before it, and the record where it is one
  pub settings_more : (i : ℕ) → (before s (suc i)).settings ≡ (before s i).settings ++ having is_setting (decode s (place_of s i) ∷ [])
  unfolding before sheet_of records_of
  settings_more i = having_append is_setting (records_of s i) (decode s (place_of s i) ∷ [])

  pub streams_more : (i : ℕ) → (before s (suc i)).streams ≡ (before s i).streams ++ having is_stream (decode s (place_of s i) ∷ [])
  unfolding before sheet_of records_of
  streams_more i = having_append is_stream (records_of s i) (decode s (place_of s i) ∷ [])
