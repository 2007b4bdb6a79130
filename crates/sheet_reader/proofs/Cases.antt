-- What a reader finds at a place, case by case, in the order of the code's tests. Assumes nothing.
use mathlib.Core.Path.{◌≡◌, ap, ◌∙◌}
use mathlib.Core.Bool.{true, false}
use mathlib.Core.List.{List}
use Prim.Native.Nat.{ℕ, ◌+◌, ◌≤◌, ◌<◌}
use native.Mathlib.Omega.{arith}
use native.Mathlib.Decide.{dec_le}
use borrow.Author.Tests.{lt-ltb, le-ltb, le-leb, lt-leb}
use lib.ListN.{length, get_or}
use Rattle.common.specs.Checks.{verdict, refusal}
use Rattle.sheet_record.specs.declared.Met.{Met}
use Rattle.sheet_record.specs.Kinds.{known, size_of, decode, whole, met_at}
use Rattle.sheet_reader.specs.Walk.{byte_checks, found_of}
use Rattle.sheet_reader.specs.declared.Found.TheVariants as found

module _ (s : List ℕ) (at : ℕ) where
  pub found_end : length s ≤ at → found_of s at ≡ found.End
  unfolding found_of
  found_end h = rw (le-ltb at (length s) h)

  module _ (inside : at < length s) where
    pub found_unknown : known (get_or s at 0) ≡ false → found_of s at ≡ found.Refused (refusal 2 at)
    unfolding found_of byte_checks verdict
    found_unknown e = simp (lt-ltb at (length s) inside, e)

    module _ (right : known (get_or s at 0) ≡ true) where
      -- the record ends beyond the sheet
      pub found_over : length s < at + size_of (get_or s at 0) → found_of s at ≡ found.Refused (refusal 1 at)
      unfolding found_of byte_checks verdict
      found_over h = simp (lt-ltb at (length s) inside, right, lt-ltb (length s) (at + size_of (get_or s at 0)) h)

      -- it stands whole
      pub found_whole : at + size_of (get_or s at 0) ≤ length s → found_of s at ≡ found.One (record { found = decode s at; next = at + size_of (get_or s at 0) })
      unfolding found_of byte_checks verdict
      found_whole h = simp (lt-ltb at (length s) inside, right, le-ltb (length s) (at + size_of (get_or s at 0)) h)

      module _ (m : Met) (is : m ≡ met_at s at) where
        -- where it ends beyond the sheet, nothing was met and the place stays
        met_over : length s < at + size_of (get_or s at 0) → m.next ≡ at
        unfolding met_at whole
        met_over h = ap (λ (x : Met). x.next) is ∙ simp (right, lt-leb _ _ h)

        met_whole : at + size_of (get_or s at 0) ≤ length s → m ≡ record { found = decode s at; next = at + size_of (get_or s at 0) }
        unfolding met_at whole
        met_whole h = is ∙ simp (right, le-leb _ _ h)

        -- a record has a byte at least
        moves : at < at + size_of (get_or s at 0)
        unfolding size_of
        moves = omega arith

        pub found_cut : m.next ≡ at → found_of s at ≡ found.Refused (refusal 1 at)
        found_cut e = go (dec_le (at + size_of (get_or s at 0)) (length s))
          where
            go : Dec (at + size_of (get_or s at 0) ≤ length s) → found_of s at ≡ found.Refused (refusal 1 at)
            go (yes h) = absurd (omega (arith, moves, e, ap (λ (x : Met). x.next) (met_whole h)))
            go (no h) = found_over (omega (arith, h))

        pub found_one : (m.next ≡ at → ⊥) → found_of s at ≡ found.One m
        found_one e = go (dec_le (at + size_of (get_or s at 0)) (length s))
          where
            go : Dec (at + size_of (get_or s at 0) ≤ length s) → found_of s at ≡ found.One m
            go (yes h) = let f = found_whole h in let g = met_whole h in cc
            go (no h) = absurd (e (met_over (omega (arith, h))))
