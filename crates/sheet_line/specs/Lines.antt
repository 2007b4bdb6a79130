-- Page 02, 'Ask 14': a record as a line of text. Assumes nothing.
use Rattle.std.specs.Prelude.{ℕ, ◌^◌, ◌≡◌, List, [], ◌∷◌, Bool, true, cond, not, ◌&&◌, length, ltb, eqb}
use Rattle.text.specs.Text.{word, decimal, item, counted, texts, ◌·◌}
use Rattle.sheet_record.specs.declared.Record.{Record}
use Rattle.sheet_record.specs.Kinds.{Unit, Field, line_of, fields_of, numbers}
use Rattle.sheet_record.specs.Kinds.Unit.{no_unit, bp, us}

-- ---- The line of a record

-- what stands behind a number: a space and its unit, or nothing for masters, identifiers and editions
abbrev pub unit_text : Unit → List ℕ
unit_text no_unit = []
unit_text bp = word " bp"
unit_text us = word " us"

-- the numbers of a record, each behind a comma
unfoldable pub cells : List Field → List ℕ → List ℕ
cells (f ∷ fs) (x ∷ xs) = word "," · decimal x · unit_text f.unit · cells fs xs
cells (f ∷ fs) [] = []
cells [] xs = []

-- the word of a kind, which has none where the table has the empty one
unfoldable pub word_of : ℕ → List ℕ
unfolding line_of
word_of k = word (line_of k).word

unfoldable pub has_word : ℕ → Bool
unfolding word_of
has_word k = not (eqb (length (word_of k)) 0)

-- `pnet-stream,1,203 bp,1000 bp,1000 bp` and the line's end; nothing for a record whose kind has no word
unfoldable pub line_text : Record → List ℕ
unfolding has_word word_of cells fields_of
line_text r = cond (has_word r.kind) (word_of r.kind · cells (fields_of r.kind) (numbers r) · word "\n") []

-- ---- What a line can say

-- each of these numbers in the bytes of its field, and 0 where there is no field
unfoldable pub in_bytes : List Field → List ℕ → Bool
in_bytes fs [] = true
in_bytes [] (x ∷ xs) = eqb x 0 && in_bytes [] xs
in_bytes (f ∷ fs) (x ∷ xs) = ltb x (256 ^ f.width) && in_bytes fs xs

-- a record of a kind that has a word
unfoldable pub sayable : Record → Bool
unfolding has_word in_bytes fields_of
sayable r = has_word r.kind && in_bytes (fields_of r.kind) (numbers r)

-- these bytes are the line of the record r
pub record Says (line : List ℕ) (r : Record) : Type 0 where
  pub can_be : sayable r ≡ true
  pub is_line : line ≡ line_text r

-- ---- Words of inner contracts

-- a record's numbers behind the first
abbrev pub others : Record → List ℕ
others r = r.b ∷ r.c ∷ r.d ∷ r.e ∷ []

-- the line of a record whose first number has no unit, and n others the unit u, behind a word w with its comma
unfoldable pub line_by : List ℕ → Record → ℕ → List ℕ → List ℕ
unfolding counted texts
line_by w r n u = counted w r.a [] · texts (λ j. counted (word ",") (item (others r) j) u) n · word "\n"
