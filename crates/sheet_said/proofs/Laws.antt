-- A line says one record at most, and `record_in` answers it. Assumes nothing.
use Prim.Native.Nat.{ℕ, zero, suc, ◌+◌, ◌^◌, ◌≤◌, ◌<◌}
use mathlib.Core.Path.{◌≡◌, refl, sym, ap, ◌∙◌}
use mathlib.Core.List.{List, [], ◌∷◌, ◌++◌, append_assoc}
use mathlib.Core.Bool.{Bool, true, false, cond, not, ◌&&◌, true≢false}
use native.Mathlib.Omega.{arith}
use borrow.Author.Tests.{eq-eqb, ne_eqb, lt-ltb, not-true}
use lib.ListN.{length, get_or, length-append}
use Rattle.text.specs.Text.{word}
use Rattle.sheet_record.specs.declared.Given.{Given}
use Rattle.sheet_record.specs.declared.Record.{Record}
use Rattle.sheet_record.specs.Numbers.{be}
use Rattle.sheet_record.specs.Kinds.{Field, Kind, kinds, fields_of, numbers, known, field_at, decode, nothing, in_range}
use Rattle.sheet_record.proofs.Numbers.{be_below}
use Rattle.sheet_record.proofs.Tables.{both_true}
use Rattle.sheet_ranges.proofs.Fits.{Fit, in_range_fits}
use Rattle.sheet_ranges.proofs.Fits.Fit.{none, over, more}
use Rattle.sheet_line.specs.Lines.{cells, word_of, has_word, line_text, in_bytes, sayable, Says}
use Rattle.sheet_said.specs.Said.{begins, headed, kind_among, kind_in, guess, same, record_in}
use Rattle.sheet_said.proofs.Cells.{same_itself, same_true}
use Rattle.sheet_said.proofs.Without.{Without, without_append, word_no_end, cells_no_end}
use Rattle.sheet_said.proofs.Guessed.{line_is, has_word_law, guess_line}

-- ---- The record of a line

-- `Says`, as the test that is made of what a line is taken for
unfoldable says : List ℕ → Record → Bool
says l r = sayable r && same l (line_text r)

says_if : (l : List ℕ) (r : Record) → Says l r → says l r ≡ true
unfolding says
says_if l r s = rw (s.can_be, ← s.is_line, same_itself l)

says_then : (l : List ℕ) (r : Record) → says l r ≡ true → Says l r
unfolding says
says_then l r e =
    let t = both_true (sayable r) (same l (line_text r)) e in
    record { can_be = t.0; is_line = same_true l (line_text r) t.1 }

record_in_law : (l : List ℕ) → record_in l ≡ cond (says l (guess l)) (guess l) nothing
unfolding record_in says
record_in_law l = refl

-- a record is read off its line
pub reads_line : (l : List ℕ) (r : Record) → Says l r → record_in l ≡ r
reads_line l r s =
    let g : guess l ≡ r = ap guess s.is_line ∙ guess_line r s.can_be in
    record_in_law l ∙ rw (g, says_if l r s)

pub record_line : (r : Record) → sayable r ≡ true → record_in (line_text r) ≡ r
record_line r e = reads_line (line_text r) r (record { can_be = e; is_line = refl })

-- what is read is a record whose line this is
pub line_read : (l : List ℕ) → ((record_in l).kind ≡ 0 → ⊥) → Says l (record_in l)
line_read l some = rw (record_in_law l) (passed (says l (guess l)) refl)
  where
    passed : (t : Bool) → says l (guess l) ≡ t → Says l (cond (says l (guess l)) (guess l) nothing)
    passed true e = rw e (says_then l (guess l) e)
    passed false e = absurd (some (ap (λ (q : Record). q.kind) (record_in_law l) ∙ rw e))

-- a kind that has a word is not 0
pub word_some : (k : ℕ) → has_word k ≡ true → k ≡ 0 → ⊥
unfolding has_word
word_some k e z = true≢false (sym e ∙ ap has_word z)

-- where none is read, there is none
pub no_line : (l : List ℕ) → (record_in l).kind ≡ 0 → (r : Record) → Says l r → ⊥
no_line l z r s = word_some r.kind (has_word_law r s.can_be) (ap (λ (q : Record). q.kind) (sym (reads_line l r s)) ∙ z)

pub one_record : {l : List ℕ} {r q : Record} → Says l r → Says l q → r ≡ q
one_record {l} {r} {q} s t = sym (reads_line l r s) ∙ reads_line l q t

-- ---- Its end

-- bytes with one line's end, which is the last of them
pub record Ended (l : List ℕ) : Type 0 where
  pub front : List ℕ
  pub is_front : l ≡ front ++ (10 ∷ [])
  pub unended : Without 10 front

pub line_ended : (r : Record) → sayable r ≡ true → Ended (line_text r)
line_ended r e =
    let w = word_of r.kind in
    let c = cells (fields_of r.kind) (numbers r) in
    record {
      front = w ++ c;
      is_front = line_is r (has_word_law r e) ∙ sym (append_assoc w c (10 ∷ []));
      unended = without_append (word_no_end r.kind) (cells_no_end (fields_of r.kind) (numbers r));
    }

pub line_some : (r : Record) → sayable r ≡ true → 0 < length (line_text r)
line_some r e =
    let d = line_ended r e in
    rw d.is_front (omega (arith, length-append d.front (10 ∷ [])))

-- ---- A text of lines is no sheet

-- a word does not begin with the number of a kind
abbrev lettered : List ℕ → Bool
lettered [] = true
lettered (b ∷ w) = not (known b)

abbrev all_lettered : List Kind → Bool
all_lettered [] = true
all_lettered (l ∷ t) = lettered (word l.word) && all_lettered t

-- another first byte
others : (b : ℕ) (p s : List ℕ) → (b ≡ get_or s 0 0 → ⊥) → begins (b ∷ p) s ≡ false
unfolding begins
others b p [] d = refl
others b p (c ∷ s) d = rw (ne_eqb b c d)

module _ (s : List ℕ) (k : known (get_or s 0 0) ≡ true) where
  not_headed : (w : List ℕ) → lettered w ≡ true → headed w s ≡ false
  not_headed [] e = refl
  not_headed (b ∷ w) e = others b (w ++ word ",") s (λ h. true≢false (sym k ∙ (ap known (sym h) ∙ not-true (known b) e)))

  kind_none : (t : List Kind) (n : ℕ) → all_lettered t ≡ true → kind_among t n s ≡ 0
  unfolding kind_among
  kind_none [] n e = refl
  kind_none (l ∷ t) n e =
      let b = both_true (lettered (word l.word)) (all_lettered t) e in
      rw (not_headed (word l.word) b.0) (kind_none t (suc n) b.1)

-- what begins with a word and a comma begins with no known kind
pub headed_unread : (s : List ℕ) → (kind_in s ≡ 0 → ⊥) → known (get_or s 0 0) ≡ false
unfolding kind_in known
headed_unread s some = unread (known (get_or s 0 0)) refl
  where
    unread : (t : Bool) → known (get_or s 0 0) ≡ t → known (get_or s 0 0) ≡ false
    unread true e = absurd (some (kind_none s e kinds 0 refl))
    unread false e = e

-- ---- Records that have a line

fits_in_bytes : {fs : List Field} {xs : List ℕ} → Fit fs xs → in_bytes fs xs ≡ true
unfolding in_bytes
fits_in_bytes none = refl
fits_in_bytes (over {x} e t) = rw (eq-eqb x 0 e) (fits_in_bytes t)
fits_in_bytes (more {f} {x = x} h t) = rw (lt-ltb x (256 ^ f.width) h) (fits_in_bytes t)

-- one in range
pub ranged_sayable : (g : Given) (r : Record) → has_word r.kind ≡ true → in_range g r ≡ true → g.masters ≤ 32 → g.message ≤ 100000 → sayable r ≡ true
unfolding sayable
ranged_sayable g r w e few short = rw (w, fits_in_bytes (in_range_fits g few short r e))

-- and one that is read off bytes
module _ (s : List ℕ) (bytes : (i : ℕ) → get_or s i 0 < 256) where
  -- its first n numbers
  abbrev first_ones : ℕ → (ℕ → ℕ) → List ℕ
  first_ones zero number = []
  first_ones (suc n) number = number 0 ∷ first_ones n (λ j. number (suc j))

  read_in_bytes : (n at : ℕ) (fs : List Field) → in_bytes fs (first_ones n (field_at s at fs)) ≡ true
  unfolding in_bytes field_at
  read_in_bytes zero at [] = refl
  read_in_bytes zero at (f ∷ fs) = refl
  read_in_bytes (suc n) at [] = read_in_bytes n at []
  read_in_bytes (suc n) at (f ∷ fs) = rw (lt-ltb (be s at f.width) (256 ^ f.width) (be_below s at f.width bytes)) (read_in_bytes n (at + f.width) fs)

  pub decode_sayable : (at : ℕ) → has_word (decode s at).kind ≡ true → sayable (decode s at) ≡ true
  unfolding sayable decode
  decode_sayable at w = rw (w, read_in_bytes 5 (at + 1) (fields_of (get_or s at 0)))
