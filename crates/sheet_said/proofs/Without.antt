-- Bytes that do not stand in a word, a number or a unit: a comma, and the line's end. Assumes nothing.
use Prim.Native.Nat.{ℕ}
use mathlib.Core.Path.{◌≡◌, refl, sym, ap, ◌∙◌}
use mathlib.Core.List.{List, [], ◌∷◌, ◌++◌}
use mathlib.Core.Bool.{Bool, true, false, not, ◌&&◌, true≢false}
use borrow.Author.Tests.{ne_eqb, not-true}
use lib.Dec.{eqb}
use Rattle.text.specs.Text.{word, decimal}
use Rattle.text_entry.specs.Entered.{is_digit, all_digits}
use Rattle.text_entry.proofs.Shown.{decimal_digits}
use Rattle.sheet_record.specs.Kinds.{Unit, Field, Kind, kinds}
use Rattle.sheet_record.specs.Kinds.Unit.{no_unit, bp, us}
use Rattle.sheet_record.proofs.Tables.{both_true, at_every_line}
use Rattle.sheet_line.specs.Lines.{unit_text, cells, word_of}

-- none of these bytes is c
pub data Without (c : ℕ) : List ℕ → Type 0 where
  none : Without c []
  more : {b : ℕ} {l : List ℕ} → eqb b c ≡ false → Without c l → Without c (b ∷ l)

pub without_append : {c : ℕ} {p q : List ℕ} → Without c p → Without c q → Without c (p ++ q)
without_append none w = w
without_append (more e v) w = more e (without_append v w)

-- as a test
abbrev lacks : ℕ → List ℕ → Bool
lacks c [] = true
lacks c (b ∷ l) = not (eqb b c) && lacks c l

lacks_then : (c : ℕ) (l : List ℕ) → lacks c l ≡ true → Without c l
lacks_then c [] e = none
lacks_then c (b ∷ l) e =
    let t = both_true (not (eqb b c)) (lacks c l) e in
    more (not-true (eqb b c) t.0) (lacks_then c l t.1)

-- ---- Words, units, numbers

-- no word of the table has a comma or an end
abbrev clean : Kind → Bool
clean l = lacks 44 (word l.word) && lacks 10 (word l.word)

clean_word : (k : ℕ) → (lacks 44 (word_of k) ≡ true) × (lacks 10 (word_of k) ≡ true)
unfolding word_of kinds
clean_word k = both_true (lacks 44 (word_of k)) (lacks 10 (word_of k)) (at_every_line clean refl refl k)

pub word_no_comma : (k : ℕ) → Without 44 (word_of k)
word_no_comma k = lacks_then 44 (word_of k) (clean_word k).0

pub word_no_end : (k : ℕ) → Without 10 (word_of k)
word_no_end k = lacks_then 10 (word_of k) (clean_word k).1

pub unit_no_comma : (u : Unit) → Without 44 (unit_text u)
unit_no_comma no_unit = none
unit_no_comma bp = lacks_then 44 (word " bp") refl
unit_no_comma us = lacks_then 44 (word " us") refl

pub unit_no_end : (u : Unit) → Without 10 (unit_text u)
unit_no_end no_unit = none
unit_no_end bp = lacks_then 10 (word " bp") refl
unit_no_end us = lacks_then 10 (word " us") refl

-- digits are without what is none
digits_without : (c : ℕ) → is_digit c ≡ false → (l : List ℕ) → all_digits l ≡ true → Without c l
unfolding all_digits
digits_without c other [] e = none
digits_without c other (b ∷ l) e =
    let t = both_true (is_digit b) (all_digits l) e in
    more (ne_eqb b c (λ s. true≢false (sym t.0 ∙ (ap is_digit s ∙ other)))) (digits_without c other l t.1)

pub number_no_comma : (n : ℕ) → Without 44 (decimal n)
unfolding is_digit
number_no_comma n = digits_without 44 refl (decimal n) (decimal_digits n)

pub number_no_end : (n : ℕ) → Without 10 (decimal n)
unfolding is_digit
number_no_end n = digits_without 10 refl (decimal n) (decimal_digits n)

-- the numbers of a record, each behind a comma
pub cells_no_end : (fs : List Field) (xs : List ℕ) → Without 10 (cells fs xs)
unfolding cells
cells_no_end [] xs = none
cells_no_end (f ∷ fs) [] = none
cells_no_end (f ∷ fs) (x ∷ xs) = more refl (without_append (number_no_end x) (without_append (unit_no_end f.unit) (cells_no_end fs xs)))
