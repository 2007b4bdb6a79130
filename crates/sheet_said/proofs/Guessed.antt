-- A record is what its own line is taken for. Assumes nothing.
use Prim.Native.Nat.{ℕ, zero, suc, ◌+◌, ◌-◌, ◌*◌, ◌^◌, ◌≤◌, ◌<◌}
use mathlib.Core.Path.{◌≡◌, refl, sym, ap, ◌∙◌}
use mathlib.Core.List.{List, [], ◌∷◌, ◌++◌, append_assoc}
use mathlib.Core.Bool.{true}
use native.Mathlib.Nat.{pow-le-pow_right}
use native.Mathlib.Omega.{arith}
use borrow.Author.Tests.{eqb-true, ltb-true}
use lib.Dec.{ltb, eqb, lit<}
use lib.ListN.{get_or}
use Rattle.text.specs.Text.{word, decimal, read_behind}
use Rattle.text.proofs.Numbers.{decimal_reads_back}
use Rattle.text_entry.specs.Entered.{is_digit, all_digits}
use Rattle.text_entry.proofs.Shown.{decimal_digits}
use Rattle.sheet_record.specs.declared.Record.{Record}
use Rattle.sheet_record.specs.Kinds.{Unit, Field, fields_of, numbers}
use Rattle.sheet_record.specs.Kinds.Unit.{no_unit, bp, us}
use Rattle.sheet_record.specs.Widths.{width_at}
use Rattle.sheet_record.proofs.Tables.{both_true, width_at_most}
use Rattle.sheet_line.specs.Lines.{unit_text, cells, word_of, has_word, line_text, in_bytes, sayable}
use Rattle.sheet_said.specs.Said.{kind_in, digits_behind, number_at, behind_comma, guess}
use Rattle.sheet_said.proofs.Without.{Without, word_no_comma, unit_no_comma, number_no_comma}
use Rattle.sheet_said.proofs.Without.Without.{none, more}

-- ---- The line

pub line_is : (r : Record) → has_word r.kind ≡ true → line_text r ≡ word_of r.kind ++ (cells (fields_of r.kind) (numbers r) ++ word "\n")
unfolding line_text
line_is r e = rw e

-- ---- The kind

-- the line of a record of kind k begins with its word, and with no other, whatever stands behind it
kind_of_line : (k x : ℕ) (xs q : List ℕ) → has_word k ≡ true → kind_in (word_of k ++ (cells (fields_of k) (x ∷ xs) ++ q)) ≡ k
unfolding has_word kind_in cells fields_of
kind_of_line zero x xs q e = cc
kind_of_line (suc zero) x xs q e = refl
kind_of_line (suc (suc zero)) x xs q e = refl
kind_of_line (suc (suc (suc zero))) x xs q e = cc
kind_of_line (suc (suc (suc (suc zero)))) x xs q e = refl
kind_of_line (suc (suc (suc (suc (suc zero))))) x xs q e = refl
kind_of_line (suc (suc (suc (suc (suc (suc zero)))))) x xs q e = refl
kind_of_line (suc (suc (suc (suc (suc (suc (suc zero))))))) x xs q e = refl
kind_of_line (suc (suc (suc (suc (suc (suc (suc (suc zero)))))))) x xs q e = refl
kind_of_line (suc (suc (suc (suc (suc (suc (suc (suc (suc zero))))))))) x xs q e = refl
kind_of_line (suc (suc (suc (suc (suc (suc (suc (suc (suc (suc zero)))))))))) x xs q e = refl
kind_of_line (suc (suc (suc (suc (suc (suc (suc (suc (suc (suc (suc k))))))))))) x xs q e = cc

-- ---- What stands behind a comma

behind_past : {p : List ℕ} → Without 44 p → (q : List ℕ) → behind_comma (p ++ q) ≡ behind_comma q
unfolding behind_comma
behind_past none q = refl
behind_past (more e w) q = rw e (behind_past w q)

-- behind comma j, counted from 0
abbrev cell_from : ℕ → List ℕ → List ℕ
cell_from zero l = behind_comma l
cell_from (suc j) l = cell_from j (behind_comma l)

cell_past : {p : List ℕ} → Without 44 p → (q : List ℕ) (j : ℕ) → cell_from j (p ++ q) ≡ cell_from j q
cell_past w q zero = behind_past w q
cell_past w q (suc j) = ap (cell_from j) (behind_past w q)

cell_none : (j : ℕ) → cell_from j [] ≡ []
unfolding behind_comma
cell_none zero = refl
cell_none (suc j) = cell_none j

-- ---- One number

past_digits : (v : ℕ) {p : List ℕ} → Without 44 p → all_digits p ≡ true → (q : List ℕ) → digits_behind v (p ++ q) ≡ digits_behind (read_behind v p) q
unfolding digits_behind read_behind all_digits
past_digits v none a q = refl
past_digits v (more {b} {l} e w) a q =
    let t = both_true (is_digit b) (all_digits l) a in
    rw (e, t.0) (past_digits (v * 10 + (b - 48)) w t.1 q)

past_unit : (v : ℕ) (u : Unit) (q : List ℕ) → digits_behind v (unit_text u ++ q) ≡ digits_behind v q
unfolding digits_behind
past_unit v no_unit q = refl
past_unit v bp q = refl
past_unit v us q = refl

-- the next cell, or the end, ends it
past_cells : (v : ℕ) (fs : List Field) (xs : List ℕ) → digits_behind v (cells fs xs ++ word "\n") ≡ v
unfolding digits_behind cells
past_cells v [] xs = refl
past_cells v (f ∷ fs) [] = refl
past_cells v (f ∷ fs) (x ∷ xs) = refl

-- a number of up to four bytes, in front of what is left of its line
number_back : (w x : ℕ) (u : Unit) (fs : List Field) (xs : List ℕ) → w ≤ 4 → x < 256 ^ w → number_at (decimal x ++ (unit_text u ++ (cells fs xs ++ word "\n"))) ≡ x
unfolding number_at
number_back w x u fs xs narrow h =
    let q = cells fs xs ++ word "\n" in
    let big : 256 ^ w ≤ 4294967296 = pow-le-pow_right {n = 256} (lit< tt) narrow in
    let read : digits_behind 0 (decimal x ++ (unit_text u ++ q)) ≡ x =
    past_digits 0 (number_no_comma x) (decimal_digits x) (unit_text u ++ q)
    ∙ (past_unit (read_behind 0 (decimal x)) u q ∙ (past_cells (read_behind 0 (decimal x)) fs xs ∙ decimal_reads_back x (omega arith))) in
    omega (arith, read)

-- ---- All numbers

none_there : (xs : List ℕ) (j : ℕ) → in_bytes [] xs ≡ true → get_or xs j 0 ≡ 0
unfolding in_bytes
none_there [] j e = refl
none_there (x ∷ xs) zero e = eqb-true x 0 (both_true (eqb x 0) (in_bytes [] xs) e).0
none_there (x ∷ xs) (suc j) e = none_there xs j (both_true (eqb x 0) (in_bytes [] xs) e).1

-- behind the line's end no number stands
end_back : (j : ℕ) → number_at (cell_from j (word "\n")) ≡ 0
unfolding number_at behind_comma
end_back zero = refl
end_back (suc j) = rw (cell_none j)

-- a cell and what is left of its line, piece by piece
pieces : (x : ℕ) (u : Unit) (rest : List ℕ) → (decimal x ++ (unit_text u ++ rest)) ++ word "\n" ≡ decimal x ++ (unit_text u ++ (rest ++ word "\n"))
pieces x u rest = append_assoc (decimal x) (unit_text u ++ rest) (word "\n") ∙ ap (λ (l : List ℕ). decimal x ++ l) (append_assoc (unit_text u) rest (word "\n"))

-- what the digits behind comma j say is number j
numbers_back : (fs : List Field) (xs : List ℕ) (j : ℕ) → ((i : ℕ) → width_at fs i ≤ 4) → in_bytes fs xs ≡ true
    → number_at (cell_from j (cells fs xs ++ word "\n")) ≡ get_or xs j 0
unfolding cells in_bytes width_at behind_comma
numbers_back [] xs j narrow e = end_back j ∙ sym (none_there xs j e)
numbers_back (f ∷ fs) [] j narrow e = end_back j
numbers_back (f ∷ fs) (x ∷ xs) zero narrow e =
    let t = both_true (ltb x (256 ^ f.width)) (in_bytes fs xs) e in
    ap number_at (pieces x f.unit (cells fs xs)) ∙ number_back f.width x f.unit fs xs (narrow 0) (ltb-true x (256 ^ f.width) t.0)
numbers_back (f ∷ fs) (x ∷ xs) (suc j) narrow e =
    let q = cells fs xs ++ word "\n" in
    let t = both_true (ltb x (256 ^ f.width)) (in_bytes fs xs) e in
    let past : cell_from j (decimal x ++ (unit_text f.unit ++ q)) ≡ cell_from j q =
    cell_past (number_no_comma x) (unit_text f.unit ++ q) j ∙ cell_past (unit_no_comma f.unit) q j in
    ap (λ (l : List ℕ). number_at (cell_from j l)) (pieces x f.unit (cells fs xs)) ∙ (ap number_at past ∙ numbers_back fs xs j (λ i. narrow (suc i)) t.1)

-- ---- The record

module _ (r : Record) (e : sayable r ≡ true) where
  pub has_word_law : has_word r.kind ≡ true
  unfolding sayable
  has_word_law = (both_true (has_word r.kind) (in_bytes (fields_of r.kind) (numbers r)) e).0

  pub in_bytes_law : in_bytes (fields_of r.kind) (numbers r) ≡ true
  unfolding sayable
  in_bytes_law = (both_true (has_word r.kind) (in_bytes (fields_of r.kind) (numbers r)) e).1

  pub kind_line : kind_in (line_text r) ≡ r.kind
  kind_line = ap kind_in (line_is r has_word_law) ∙ kind_of_line r.kind r.a (r.b ∷ r.c ∷ r.d ∷ r.e ∷ []) (word "\n") has_word_law

  -- so does a text that begins with it
  pub kind_text : (t : List ℕ) → kind_in (line_text r ++ t) ≡ r.kind
  kind_text t =
      let w = word_of r.kind in
      let c = cells (fields_of r.kind) (numbers r) in
      ap (λ (l : List ℕ). kind_in (l ++ t)) (line_is r has_word_law)
      ∙ (ap kind_in (append_assoc w (c ++ word "\n") t ∙ ap (λ (l : List ℕ). w ++ l) (append_assoc c (word "\n") t))
      ∙ kind_of_line r.kind r.a (r.b ∷ r.c ∷ r.d ∷ r.e ∷ []) (word "\n" ++ t) has_word_law)

  pub number_line : (j : ℕ) → number_at (cell_from j (line_text r)) ≡ get_or (numbers r) j 0
  number_line j =
      let q = cells (fields_of r.kind) (numbers r) ++ word "\n" in
      ap (λ (l : List ℕ). number_at (cell_from j l)) (line_is r has_word_law)
      ∙ (ap number_at (cell_past (word_no_comma r.kind) q j) ∙ numbers_back (fields_of r.kind) (numbers r) j (width_at_most r.kind) in_bytes_law)

  pub guess_line : guess (line_text r) ≡ r
  unfolding guess
  guess_line = simp (kind_line, number_line 0, number_line 1, number_line 2, number_line 3, number_line 4)
