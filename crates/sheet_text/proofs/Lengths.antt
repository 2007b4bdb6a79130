-- Page 02, 'Ask 14': how long the text of an accepted sheet is at most, and what export and import answer. Assumes nothing.
use Prim.Native.Nat.{ℕ, suc, ◌*◌, ◌^◌, ◌≤◌, ◌<◌}
use mathlib.Core.Path.{◌≡◌, refl}
use mathlib.Core.List.{List, [], ◌∷◌}
use mathlib.Core.Bool.{true}
use native.Mathlib.Nat.{pow-le-pow_right, suc-mul}
use native.Mathlib.Omega.{arith}
use lib.Dec.{lit<}
use lib.ListN.{length, get_or, length-append}
use Rattle.sheet_record.specs.declared.Record.{Record}
use Rattle.sheet_record.specs.Kinds.{Field, in_range, nothing}
use Rattle.sheet_record.specs.Widths.{width_at}
use Rattle.sheet_record.proofs.Tables.{width_at_most}
use Rattle.sheet_ranges.proofs.Fits.{Fit, in_range_fits}
use Rattle.sheet_ranges.proofs.Fits.Fit.{none, over, more}
use Rattle.sheet_write.specs.Writing.{greatest}
use Rattle.sheet_rules.specs.Sheets.{Sheet, most_in_all}
use Rattle.sheet_rules.specs.Records.{records_in}
use Rattle.sheet_rules.specs.Whole.{reading}
use Rattle.sheet_rules.specs.Whole.Outcome.{Read}
use Rattle.sheet_rules.proofs.Known.{reading_read}
use Rattle.sheet_rules.proofs.Lengths.{length_at_most, longest_sheet_is}
use Rattle.sheet_line.specs.Lines.{line_text}
use Rattle.sheet_line.proofs.Lines.{Small, line_most}
use Rattle.sheet_pieces.specs.Texts.{text_of}
use Rattle.sheet_text.specs.Answers.{sheet_text, most_text, export_answer, import_answer}
use Rattle.sheet_text.proofs.Inverse.{how_many_records, ranged_at, export_then, import_then}
use Rattle.std.specs.declared.result.Result.TheVariants.{Ok, Err}
use Rattle.common.specs.Checks.{refusal}

pub most_text_is : most_text ≡ 79968
unfolding most_text most_in_all
most_text_is = refl

-- numbers that fit their bytes are of 32 bits
fit_small : {fs : List Field} {xs : List ℕ} → Fit fs xs → ((j : ℕ) → width_at fs j ≤ 4) → Small xs
unfolding width_at
fit_small none narrow = tt
fit_small (over e t) narrow = (omega arith, fit_small t narrow)
fit_small (more {f} {fs} {x} h t) narrow =
    let big : 256 ^ f.width ≤ 4294967296 = pow-le-pow_right {n = 256} (lit< tt) (narrow 0) in
    (omega arith, fit_small t (λ j. narrow (suc j)))

pub line_at_most : (r : Record) → in_range greatest r ≡ true → length (line_text r) < 96
line_at_most r e = line_most r (fit_small (in_range_fits greatest (omega arith) (omega arith) r e) (width_at_most r.kind))

lines_at_most : (rs : List Record) → ((i : ℕ) → i < length rs → in_range greatest (get_or rs i nothing) ≡ true) → length (text_of rs) ≤ length rs * 96
unfolding text_of
lines_at_most [] h = omega arith
lines_at_most (r ∷ rs) h =
    omega (
      arith,
      length-append (line_text r) (text_of rs),
      line_at_most r (h 0 (omega arith)),
      lines_at_most rs (λ i l. h (suc i) (omega arith)),
      suc-mul (length rs) 96,
    )

pub text_at_most : (s : List ℕ) (S : Sheet) → reading s ≡ Read S → length (sheet_text S) ≤ most_text
unfolding sheet_text
text_at_most s S e =
    omega (
      arith,
      lines_at_most (records_in S) (ranged_at s S e),
      how_many_records s S e,
      (reading_read s S e).few_settings,
      (reading_read s S e).few,
      most_text_is,
    )

-- the lengths that are answered: no one takes them for a refusal behind 2^32 (planner_exports)
pub written_at_most : (room : ℕ) (s : List ℕ) (n : ℕ) → export_answer room s ≡ Ok n → n ≤ 79968
written_at_most room s n e =
    let x = export_then room s n e in
    omega (arith, x.is_length, text_at_most s x.sheet x.reads, most_text_is)

pub read_at_most : (room : ℕ) (t : List ℕ) (n : ℕ) → import_answer room t ≡ Ok n → n ≤ 12804
read_at_most room t n e =
    let x = import_then room t n e in
    omega (arith, x.is_length, length_at_most x.bytes x.sheet x.reads, longest_sheet_is)
