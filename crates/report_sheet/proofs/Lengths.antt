-- How long the report's texts are at most, so that room is tested once. Assumes nothing.
use mathlib.Core.List.{[], ◌++◌}
use mathlib.Core.Bool.{Bool, true, false, cond}
use Prim.Native.Nat.{ℕ, ◌+◌, ◌*◌, ◌/◌, ◌%◌, ◌^◌, ◌≤◌, ◌<◌}
use native.Mathlib.Omega.{arith}
use lib.Dec.{eqb}
use lib.ListN.{length, length-append}
use Rattle.units.specs.declared.RingPeriods.{RingPeriods}
use Rattle.pnet_rules.specs.Segment.{Segment, count, bound}
use Rattle.pnet_rules.specs.Refined.{refined, rounds}
use Rattle.units.specs.Units.{bp}
use Rattle.units.specs.declared.BitPeriods.{BitPeriods}
use Rattle.units.specs.declared.Micros.{Micros}
use Rattle.text.specs.Text.{word, places, decimal, texts}
use Rattle.report_phrases.specs.Phrases.{in_us, two_counts, name_of, refused_text, refusal_text}
use Rattle.report_lines.specs.Lines.{master_line, ring_text, name_text, name_at, row_line, table_head}
use Rattle.report_sheet.specs.Whole.{most_text, master_of, masters_of, row_at, table_text}
use Rattle.text.proofs.Lengths.{decimal_most, decimal_any, texts_most}
use Rattle.text.proofs.Numbers.{length_places}
use Rattle.report_phrases.proofs.Lengths.{both_any, two_most, refused_most}

-- ---- P-NET

line_most : (k : ℕ) (R W : BitPeriods) (m : ℕ) → length (master_line k R W m) ≤ 147
unfolding master_line name_of
line_most k R W m =
    let figures = two_counts (word " bound ") R (word " refined ") W in
    let t = word " " ++ (decimal m ++ word " rounds\n") in
    omega (
      arith,
      length-append (places 2 k) (figures ++ t),
      length_places 2 k,
      length-append figures t,
      two_most 49 (word " bound ") R (word " refined ") W (both_any R) (both_any W),
      length-append (decimal m) (word " rounds\n"),
      decimal_any m,
    )

-- a line, or none
some_most : (b : Bool) (k : ℕ) (R W : BitPeriods) (m : ℕ) → length (cond b [] (master_line k R W m)) ≤ 147
some_most true k R W m = omega arith
some_most false k R W m = line_most k R W m

pub masters_most : (S : Segment) → length (masters_of S) ≤ S.masters * 147
unfolding masters_of master_of
masters_most S =
    texts_most (λ i. master_of S (i + 1)) 147 S.masters
    (λ i h. some_most (eqb (count S (i + 1)) 0) (i + 1) (bp (bound S (i + 1))) (bp (refined S (i + 1))) (rounds S (i + 1)))

-- ---- PROFIBUS

pub ring_most : (rotation : RingPeriods) (stream : ℕ) → length (ring_text rotation stream) ≤ 83
unfolding ring_text
ring_most rotation stream = simp length-append (omega (arith, decimal_any rotation.0, decimal_any stream))

-- ---- WorldFIP

-- identifiers have 16 bits
abbrev pub Small : (ℕ → ℕ) → Type 0
Small name = (r : ℕ) → name r < 2 ^ 16

name_most : (b x : ℕ) → x < 2 ^ 16 → length (name_text b x) ≤ 6
unfolding name_text
name_most b x s = split (eqb b 1)
  where
    split : (t : Bool) → length (cond t (word " " ++ decimal x) []) ≤ 6
    split true = omega (arith, decimal_most 5 x (omega arith) (omega arith) (omega arith))
    split false = omega arith

row_most : (m row : ℕ) (name : ℕ → ℕ) → m < 10 ^ 4 → Small name → length (row_line m row name) ≤ 394
unfolding row_line name_at
row_most m row name s small =
    simp length-append
    (omega (arith, decimal_most 4 m (omega arith) (omega arith) s, texts_most (name_at row name) 6 64 (λ r h. name_most (row / 2 ^ r % 2) (name r) (small r))))

head_most : (u : Micros) (slots rows : ℕ) → length (table_head u slots rows) ≤ 106
unfolding table_head in_us
head_most u slots rows = simp length-append (omega (arith, decimal_any u.0, decimal_any slots, decimal_any rows))

pub table_most : (u : Micros) (slots rows : ℕ) (row name : ℕ → ℕ) → rows ≤ 4096 → Small name → length (table_text u slots rows row name) ≤ most_text
unfolding table_text row_at
table_most u slots rows row name few small =
    omega (
      arith,
      length-append (table_head u slots rows) (texts (row_at row name) rows),
      head_most u slots rows,
      texts_most (row_at row name) 394 rows (λ m h. row_most m (row m) name (omega arith) small),
    )

-- ---- Refusals

pub refusal_most : (n p : ℕ) → length (refusal_text n p) ≤ 64
unfolding refusal_text
refusal_most n p = omega (arith, length-append (refused_text n p) (word "\n"), refused_most n p)
