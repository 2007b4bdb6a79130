-- What one digit more says, and that a number that 32 bits do not hold stays one. Assumes nothing.
use Prim.Native.Nat.{ℕ, ◌+◌, ◌-◌, ◌*◌, ◌≤◌, ◌<◌, min}
use mathlib.Core.Path.{◌≡◌, refl, sym, ap, ◌∙◌}
use mathlib.Core.List.{List, [], ◌∷◌}
use mathlib.Core.Bool.{true, false, cond, ◌&&◌, ◌||◌}
use native.Mathlib.Numerals.{add-one}
use native.Mathlib.Omega.{arith}
use borrow.Author.Tests.{le-leb, ne_eqb, not-true}
use lib.Dec.{leb, ltb}
use lib.ListN.{length, get_or, drop}
use lib.Seq.{drop-cons, drop-length}
use Rattle.common.proofs.Outside.{outside_is}
use Rattle.text.specs.Text.{read_behind}
use Rattle.text_entry.specs.Entered.{is_digit, all_digits, entered_of}
use Rattle.std.specs.declared.result.Result.TheVariants.{Ok, Err}
use Rattle.std.specs.declared.result.Result.{Result}
use Rattle.std.specs.declared.option.Option.{Option}
use Rattle.std.specs.declared.option.Option.TheVariants.{Some, None}

-- ---- One digit

pub is_digit_law : (d : ℕ) → 48 ≤ d → d ≤ 57 → is_digit d ≡ true
unfolding is_digit
is_digit_law d lo hi = simp (le-leb 48 d lo, le-leb d 57 hi)

pub is_none : (d : ℕ) → (ltb d 48 || ltb 57 d) ≡ true → is_digit d ≡ false
unfolding is_digit
is_none d h = not-true (leb 48 d && leb d 57) (outside_is 48 d 57 ∙ h)

-- ---- What digits say behind n

-- two numbers that count as one still do with more digits
alike : (m n : ℕ) (t : List ℕ) → min m 4294967295 ≡ min n 4294967295 → min (read_behind m t) 4294967295 ≡ min (read_behind n t) 4294967295
unfolding read_behind
alike m n [] e = e
alike m n (b ∷ t) e = alike (m * 10 + (b - 48)) (n * 10 + (b - 48)) t (omega arith)

-- the answer, with n for the digits so far and t for what is left
unfoldable pub entered_behind : ℕ → List ℕ → Option ℕ
entered_behind n t = cond (all_digits t) (Some (min (read_behind n t) 4294967295)) None

module _ (n d : ℕ) (t : List ℕ) where
  pub behind_digit : 48 ≤ d → d ≤ 57 → entered_behind n (d ∷ t) ≡ entered_behind (min (n * 10 + (d - 48)) 4294967295) t
  unfolding entered_behind all_digits read_behind
  behind_digit lo hi =
      rw (is_digit_law d lo hi)
      (ap (λ (v : ℕ). cond (all_digits t) (Some v) None) (alike (n * 10 + (d - 48)) (min (n * 10 + (d - 48)) 4294967295) t (omega arith)))

  pub behind_other : (ltb d 48 || ltb 57 d) ≡ true → entered_behind n (d ∷ t) ≡ None
  unfolding entered_behind all_digits
  behind_other h = rw (is_none d h) refl

pub behind_none : (n : ℕ) → n ≤ 4294967295 → entered_behind n [] ≡ Some n
unfolding entered_behind all_digits read_behind
behind_none n s = ap Some (omega arith)

-- ---- The walk

pub entered_empty : (t : List ℕ) → length t ≡ 0 → entered_of t ≡ None
unfolding entered_of
entered_empty [] e = refl
entered_empty (b ∷ t) e = absurd (omega arith)

pub entered_some : (t : List ℕ) → (length t ≡ 0 → ⊥) → entered_of t ≡ entered_behind 0 t
unfolding entered_of entered_behind
entered_some t some = rw (ne_eqb (length t) 0 some) refl

-- what is left begins with the next byte
pub left_more : (t : List ℕ) (i : ℕ) → i < length t → drop i t ≡ get_or t i 0 ∷ drop (i + 1) t
left_more t i h = drop-cons t i 0 h ∙ ap (λ (k : ℕ). get_or t i 0 ∷ drop k t) (sym (add-one i))

pub left_none : (t : List ℕ) (i : ℕ) → i ≡ length t → drop i t ≡ []
left_none t i e = ap (λ (k : ℕ). drop k t) e ∙ drop-length t
