-- The numbers that the parts of the reader answer at a record are the verdict on that record. Assumes nothing.
use mathlib.Core.Path.{◌≡◌, refl}
use mathlib.Core.Bool.{Bool, true, false, cond, not, ◌&&◌, ◌||◌}
use mathlib.Core.List.{List, [], ◌∷◌}
use Prim.Native.Nat.{ℕ, zero, suc, ◌+◌}
use borrow.Author.Tests.{leb-true, leb-false, lt-ltb, le-ltb}
use lib.ListN.{length, get_or}
use lib.Dec.{leb, ltb}
use Rattle.common.specs.Checks.{Check, check, Verdict, verdict}
use Rattle.common.specs.Checks.Verdict.{Refused}
use Rattle.sheet_record.specs.Kinds.{known, is_stream, size_of, decode, in_range}
use Rattle.sheet_judge.specs.Own.{own_no}
use Rattle.sheet_rules.specs.Sheets.{given, fits, lacking, repeated, over_limit, met_before}
use Rattle.sheet_rules.specs.Whole.{place_of, before, record_checks, judge}

-- a number that is not 0 is a refusal
unfoldable pub numbered : ℕ → ℕ → Verdict → Verdict
numbered zero p v = v
numbered (suc n) p v = Refused (suc n) p

-- not at most is above
pub above : (m n : ℕ) → ltb n m ≡ not (leb m n)
above m n = split (leb m n) refl
  where
    split : (b : Bool) → leb m n ≡ b → ltb n m ≡ not b
    split true q = le-ltb n m (leb-true m n q)
    split false q = lt-ltb n m (leb-false m n q)

-- ---- 2, 3, 1, 4

own_first : (isKnown isRight is_whole isRanged : Bool) (p : ℕ) (rest : List Check)
    → verdict (check 2 (not isKnown) p ∷ check 3 (not isRight) p ∷ check 1 (not is_whole) p ∷ check 4 (not isRanged) p ∷ rest)
    ≡ numbered (own_no isKnown isRight is_whole isRanged) p (verdict rest)
unfolding verdict own_no numbered
own_first false isRight is_whole isRanged p rest = refl
own_first true false is_whole isRanged p rest = refl
own_first true true false isRanged p rest = refl
own_first true true true false p rest = refl
own_first true true true true p rest = refl

-- ---- A record of the sheet

module _ (s : List ℕ) (i : ℕ) where
  -- 5 and 7, for a record that no other refusal meets
  unfoldable pub late_checks : List Check
  late_checks =
      check 5 (over_limit (before s i).streams (decode s (place_of s i))) (place_of s i)
      ∷ check 7 (met_before (before s i).streams (decode s (place_of s i))) (place_of s i)
      ∷ []

  unfoldable pub own_at : ℕ
  own_at =
      own_no (known (get_or s (place_of s i) 0)) (fits (before s i) (get_or s (place_of s i) 0))
      (leb (place_of s i + size_of (get_or s (place_of s i) 0)) (length s))
      (in_range (given (before s i) (decode s (place_of s i)).a) (decode s (place_of s i)))

  -- 20
  unfoldable pub wrong_at : Bool
  wrong_at = repeated (before s i) (decode s (place_of s i)) || (is_stream (decode s (place_of s i)).kind && lacking (before s i))

  pub judge_own : judge s i ≡ numbered own_at (place_of s i) (cond wrong_at (Refused 20 (place_of s i)) (verdict late_checks))
  unfolding judge record_checks decode late_checks own_at wrong_at verdict
  judge_own =
      rw (above (place_of s i + size_of (get_or s (place_of s i) 0)) (length s))
      (own_first (known (get_or s (place_of s i) 0)) (fits (before s i) (get_or s (place_of s i) 0)) (leb (place_of s i + size_of (get_or s (place_of s i) 0)) (length s))
      (in_range (given (before s i) (decode s (place_of s i)).a) (decode s (place_of s i))) (place_of s i)
      (check 20 (repeated (before s i) (decode s (place_of s i)) || (is_stream (decode s (place_of s i)).kind && lacking (before s i))) (place_of s i) ∷ late_checks))
