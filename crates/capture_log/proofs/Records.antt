-- What stands at a place of a capture, case by case. Assumes nothing.
use Rattle.std.proofs.Common.{◌≡◌, ℕ, ◌+◌, ◌*◌, ◌<◌, ◌≤◌, true, false, leb, List, length, get_or, refl, ap, ◌∙◌, add-zero, zero-add, arith, le-leb}
use mathlib.Core.Bool.{and-false}
use borrow.Author.Tests.{lt-leb}
use Rattle.sheet_record.specs.Numbers.{be}
use Rattle.capture_log.specs.Records.{size, event_at, known, none, met_at}

-- the number in two bytes
pub be_pair : (c : List ℕ) (at : ℕ) → be c at 2 ≡ get_or c at 0 * 256 + get_or c (at + 1) 0
unfolding be
be_pair c at = simp (add-zero, zero-add) refl

-- four bytes are two and two
be_four : (c : List ℕ) (at : ℕ) → be c at 4 ≡ be c at 2 * 65536 + be c (at + 2) 2
unfolding be
be_four c at =
    let two : at + 2 + 0 ≡ at + 2 = omega arith in
    let three : at + 2 + 1 ≡ at + 3 = omega arith in
    omega (arith, ap (λ (i : ℕ). get_or c i 0) two, ap (λ (i : ℕ). get_or c i 0) three)

-- a stamp is two pairs
pub be_stamp : (c : List ℕ) (at : ℕ) → be c (at + 3) 4 ≡ be c (at + 3) 2 * 65536 + be c (at + 5) 2
be_stamp c at =
    let five : at + 3 + 2 ≡ at + 5 = omega arith in
    be_four c (at + 3) ∙ ap (λ (i : ℕ). be c (at + 3) 2 * 65536 + be c i 2) five

module _ (c : List ℕ) (at : ℕ) where
  pub event_is : (stream high low : ℕ) → stream ≡ be c (at + 1) 2 → high ≡ be c (at + 3) 2 → low ≡ be c (at + 5) 2
      → record { kind = get_or c at 0; stream = stream; stamp = high * 65536 + low } ≡ event_at c at
  unfolding event_at
  event_is stream high low s h l = rw (s, h, l, be_stamp c at) refl

  pub met_cut : length c < at + size → met_at c at ≡ none
  unfolding met_at
  met_cut h = rw (lt-leb (at + size) (length c) h) refl

  pub met_unknown : known (get_or c at 0) ≡ false → met_at c at ≡ none
  unfolding met_at
  met_unknown h = rw (h, and-false (leb (at + size) (length c))) refl

  pub met_whole : at + size ≤ length c → known (get_or c at 0) ≡ true → met_at c at ≡ event_at c at
  unfolding met_at
  met_whole h k = rw (le-leb (at + size) (length c) h, k) refl
