-- Laws of a record's line: which kinds have a word, the pieces that the code stores, and how long a line is at most. Assumes nothing.
use Prim.Native.Nat.{ℕ, zero, suc, ◌+◌, ◌*◌, ◌^◌, ◌≤◌, ◌<◌}
use mathlib.Core.Path.{◌≡◌, refl, sym, ap, ◌∙◌}
use mathlib.Core.List.{List, [], ◌∷◌, ◌++◌, append_assoc}
use mathlib.Core.Bool.{Bool, true, false, cond, not, ◌&&◌}
use native.Mathlib.Decide.{ℕ_discrete}
use native.Mathlib.Omega.{arith}
use borrow.Author.Tests.{leb-true, leb-false, eq-eqb, ne_eqb}
use lib.Dec.{leb, ltb, eqb, leb-suc-suc}
use lib.ListN.{length, length-append}
use Rattle.text.specs.Text.{word, decimal, item, counted, texts}
use Rattle.text.proofs.Lengths.{decimal_most}
use Rattle.sheet_record.specs.declared.Record.{Record}
use Rattle.sheet_record.specs.Kinds as table
use Rattle.sheet_record.specs.Kinds.{Field, kinds, line_of, fields_of, known, numbers}
use Rattle.sheet_record.specs.Kinds.Unit.{no_unit, bp, us}
use Rattle.sheet_record.proofs.Tables.{unknown, at_every_line}
use Rattle.sheet_line.specs.Lines.{unit_text, cells, word_of, has_word, line_text, others, line_by, in_bytes, sayable}

-- ---- Which kinds have a word

-- those that are known, but 3
pub known_but_3 : (k : ℕ) → (not (eqb k 3) && known k) ≡ has_word k
unfolding has_word word_of known fields_of line_of kinds
known_but_3 zero = refl
known_but_3 (suc zero) = refl
known_but_3 (suc (suc zero)) = refl
known_but_3 (suc (suc (suc zero))) = refl
known_but_3 (suc (suc (suc (suc zero)))) = refl
known_but_3 (suc (suc (suc (suc (suc zero))))) = refl
known_but_3 (suc (suc (suc (suc (suc (suc zero)))))) = refl
known_but_3 (suc (suc (suc (suc (suc (suc (suc zero))))))) = refl
known_but_3 (suc (suc (suc (suc (suc (suc (suc (suc zero)))))))) = refl
known_but_3 (suc (suc (suc (suc (suc (suc (suc (suc (suc zero))))))))) = refl
known_but_3 (suc (suc (suc (suc (suc (suc (suc (suc (suc (suc zero)))))))))) = refl
known_but_3 (suc (suc (suc (suc (suc (suc (suc (suc (suc (suc (suc n))))))))))) = beyond (not (eqb (suc (suc (suc (suc (suc (suc (suc (suc (suc (suc (suc n))))))))))) 3))
  where
    beyond : (t : Bool) → (t && false) ≡ false
    beyond true = refl
    beyond false = refl

-- so 3 has none, and what is not one of 1 to 10
pub no_word : (k : ℕ) → (1 ≤ k → k ≤ 10 → k ≡ 3) → has_word k ≡ false
no_word k other = sym (known_but_3 k) ∙ split (ℕ_discrete k 3)
  where
    split : Dec (k ≡ 3) → (not (eqb k 3) && known k) ≡ false
    split (yes e) = ap (λ (t : Bool). not t && known k) (eq-eqb k 3 e)
    split (no n) = rw (ne_eqb k 3 n) (unknown k (λ lo hi. n (other lo hi)))

-- k is none of the others, in the form in which the last arm of a `match` over them knows it
abbrev Rest : ℕ → Type 0
Rest k = ((((((((Unit {0} × (k ≡ 1 → ⊥)) × (k ≡ 2 → ⊥)) × (k ≡ 4 → ⊥)) × (k ≡ 5 → ⊥)) × (k ≡ 6 → ⊥)) × (k ≡ 7 → ⊥)) × (k ≡ 8 → ⊥)) × (k ≡ 9 → ⊥)) × (k ≡ 10 → ⊥)

-- one that is above n and is not the next is above that too
above_next : {k n : ℕ} → n < k → (k ≡ suc n → ⊥) → suc n < k
above_next l z = omega (arith, z)

pub left_out : (k : ℕ) → Rest k → has_word k ≡ false
left_out k rest = no_word k (λ lo hi. by (leb k 3) refl lo hi)
  where
    low : 2 < k → leb k 3 ≡ true → k ≡ 3
    low l e = omega (arith, leb-true k 3 e)

    past : 10 < k → k ≤ 10 → ⊥
    past l hi = omega arith

    by : (b : Bool) → leb k 3 ≡ b → 1 ≤ k → k ≤ 10 → k ≡ 3
    by true e lo hi = low (above_next (above_next lo rest.0.0.0.0.0.0.0.0.1) rest.0.0.0.0.0.0.0.1) e
    by false e lo hi =
        let six = above_next (above_next (above_next (leb-false k 3 e) rest.0.0.0.0.0.0.1) rest.0.0.0.0.0.1) rest.0.0.0.0.1 in
        absurd (past (above_next (above_next (above_next (above_next six rest.0.0.0.1) rest.0.0.1) rest.0.1) rest.1) hi)

-- ---- What a line can say

-- a record is judged by its kind
pub judged_by : (k : ℕ) (r : Record) → r.kind ≡ k → sayable r ≡ (has_word k && in_bytes (fields_of k) (numbers r))
unfolding sayable
judged_by k r e = ap (λ (n : ℕ). has_word n && in_bytes (fields_of n) (numbers r)) e

pub not_sayable : (r : Record) → has_word r.kind ≡ false → sayable r ≡ false
unfolding sayable
not_sayable r e = ap (λ (t : Bool). t && in_bytes (fields_of r.kind) (numbers r)) e

-- below n + 1, as the definition has it, is at most n, as code tests it
pub below_next : (x n : ℕ) → ltb x (suc n) ≡ leb x n
below_next x n = leb-suc-suc x n

-- ---- The pieces that the code stores, kind by kind

-- past its last number a record has none
pub past_others : (r : Record) (j : ℕ) → 4 ≤ j → 0 ≡ item (others r) j
past_others r zero h = absurd (omega arith)
past_others r (suc zero) h = absurd (omega arith)
past_others r (suc (suc zero)) h = absurd (omega arith)
past_others r (suc (suc (suc zero))) h = absurd (omega arith)
past_others r (suc (suc (suc (suc j)))) h = refl

-- a record's line is that of its kind
line_of_kind : (k : ℕ) (r : Record) → r.kind ≡ k → line_text r ≡ cond (has_word k) (word_of k ++ (cells (fields_of k) (numbers r) ++ word "\n")) []
unfolding line_text
line_of_kind k r e = ap (λ (n : ℕ). cond (has_word n) (word_of n ++ (cells (fields_of n) (numbers r) ++ word "\n")) []) e

module _ (r : Record) where
  pub segment_pieces : r.kind ≡ 1 → line_text r ≡ line_by (word "pnet-segment,") r 0 []
  unfolding line_by counted texts has_word word_of cells fields_of line_of kinds
  segment_pieces e = line_of_kind 1 r e ∙ simp append_assoc

  pub stream_pieces : r.kind ≡ 2 → line_text r ≡ line_by (word "pnet-stream,") r 3 (word " bp")
  unfolding line_by counted texts has_word word_of cells fields_of line_of kinds
  stream_pieces e = line_of_kind 2 r e ∙ simp append_assoc

  pub ring_stream_pieces : r.kind ≡ 4 → line_text r ≡ line_by (word "profibus-stream,") r 2 (word " bp")
  unfolding line_by counted texts has_word word_of cells fields_of line_of kinds
  ring_stream_pieces e = line_of_kind 4 r e ∙ simp append_assoc

  pub exchange_pieces : r.kind ≡ 5 → line_text r ≡ counted (word "worldfip-exchange,") r.a (word " us\n")
  unfolding counted has_word word_of cells fields_of line_of kinds
  exchange_pieces e = line_of_kind 5 r e ∙ simp append_assoc

  pub variable_pieces : r.kind ≡ 6 → line_text r ≡ line_by (word "worldfip-variable,") r 1 (word " us")
  unfolding line_by counted texts has_word word_of cells fields_of line_of kinds
  variable_pieces e = line_of_kind 6 r e ∙ simp append_assoc

  pub jitter_stream_pieces : r.kind ≡ 7 → line_text r ≡ line_by (word "pnet-jitter-stream,") r 4 (word " bp")
  unfolding line_by counted texts has_word word_of cells fields_of line_of kinds
  jitter_stream_pieces e = line_of_kind 7 r e ∙ simp append_assoc

  pub edition_pieces : r.kind ≡ 8 → line_text r ≡ line_by (word "pnet-edition,") r 0 []
  unfolding line_by counted texts has_word word_of cells fields_of line_of kinds
  edition_pieces e = line_of_kind 8 r e ∙ simp append_assoc

  pub ring_pieces : r.kind ≡ 9 → line_text r ≡ line_by (word "profibus-ring,") r 1 (word " bp")
  unfolding line_by counted texts has_word word_of cells fields_of line_of kinds
  ring_pieces e = line_of_kind 9 r e ∙ simp append_assoc

  pub message_pieces : r.kind ≡ 10 → line_text r ≡ line_by (word "profibus-message,") r 1 (word " bp")
  unfolding line_by counted texts has_word word_of cells fields_of line_of kinds
  message_pieces e = line_of_kind 10 r e ∙ simp append_assoc

  pub no_line : has_word r.kind ≡ false → line_text r ≡ []
  unfolding line_text
  no_line e = ap (λ (t : Bool). cond t (word_of r.kind ++ (cells (fields_of r.kind) (numbers r) ++ word "\n")) []) e

-- ---- How long a line is at most

-- numbers of 32 bits
abbrev pub Small : List ℕ → Type 0
Small [] = Unit
Small (x ∷ xs) = (x < 2 ^ 32) × Small xs

unit_most : (u : table.Unit) → length (unit_text u) ≤ 3
unit_most no_unit = omega arith
unit_most bp = omega arith
unit_most us = omega arith

-- a comma, ten digits and a unit for each field
cells_most : (fs : List Field) (xs : List ℕ) → Small xs → length (cells fs xs) ≤ 14 * length fs
unfolding cells
cells_most [] xs s = omega arith
cells_most (f ∷ fs) [] s = omega arith
cells_most (f ∷ fs) (x ∷ xs) s =
    omega (
      arith,
      length-append (decimal x) (unit_text f.unit ++ cells fs xs),
      length-append (unit_text f.unit) (cells fs xs),
      decimal_most 10 x (omega arith) (omega arith) (omega (arith, s.0)),
      unit_most f.unit,
      cells_most fs xs s.1,
    )

-- no line of the table gives more than 94 bytes and the line's end
room : (k : ℕ) → length (word_of k) + 14 * length (fields_of k) ≤ 94
unfolding word_of fields_of kinds
room k = leb-true _ 94 (at_every_line (λ l. leb (length (word l.word) + 14 * length l.fields) 94) refl refl k)

pub line_most : (r : Record) → Small (numbers r) → length (line_text r) < 96
unfolding line_text
line_most r s = split (has_word r.kind)
  where
    split : (t : Bool) → length (cond t (word_of r.kind ++ (cells (fields_of r.kind) (numbers r) ++ word "\n")) []) < 96
    split true =
        let body = cells (fields_of r.kind) (numbers r) in
        omega (
          arith,
          length-append (word_of r.kind) (body ++ word "\n"),
          length-append body (word "\n"),
          cells_most (fields_of r.kind) (numbers r) s,
          room r.kind,
        )
    split false = omega arith
