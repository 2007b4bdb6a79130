-- Laws of the front of the sheet: what a run keeps of it is read as the whole is. Assumes nothing.
use Prim.Native.Nat.{ℕ, ◌+◌, ◌≤◌, ◌<◌, min}
use mathlib.Core.Path.{◌≡◌, refl, sym, ap, ◌∙◌}
use mathlib.Core.List.{List, [], ◌++◌}
use mathlib.Core.Bool.{true, not}
use native.Mathlib.Decide.{dec_lt}
use native.Mathlib.Omega.{arith}
use borrow.Author.Tests.{lt-ltb, le-ltb}
use lib.Dec.{eqb}
use lib.ListN.{length, take, drop, length-append}
use lib.Seq.{take_all, take_at, take-append-le, take-take, length-take-le}
use Rattle.sheet_record.specs.declared.Record.{Record}
use Rattle.sheet_record.specs.Kinds.{known, written, size_of, encode}
use Rattle.sheet_record.proofs.Numbers.{length_pasted, pasted_front}
use Rattle.sheet_record.proofs.Tables.{both_true, size_at_most}
use Rattle.sheet_record.proofs.Parts.{written_is}
use Rattle.sheet_write.specs.Writing.{free_answer, free_bytes}
use Rattle.sheet_write.proofs.Trips.{length_encode}
use Rattle.sheet_write.proofs.Writing.{room_free}
use Rattle.sheet_rules.specs.Sheets.{Sheet}
use Rattle.sheet_rules.specs.Whole.{reading}
use Rattle.sheet_rules.specs.Whole.Outcome.{Read}
use Rattle.sheet_rules.specs.Lengths.{enough}
use Rattle.sheet_rules.proofs.Lengths.{enough_is, longest_sheet_is, length_at_most, reading_prefix}
use Rattle.sheet_line.specs.Lines.{has_word}
use Rattle.sheet_line.proofs.Lines.{known_but_3}
use Rattle.sheet_pieces.specs.Steps.{room, kept_more, sheet_more}
use Rattle.std.specs.declared.result.Result.{Result}
use Rattle.common.specs.declared.Refusal.{Refusal}
use Rattle.std.specs.Result.{result_unwrap_or}

pub room_is : room ≡ 12836
unfolding room
room_is = refl

-- ---- What `keep` does

-- what it answers and leaves in the run
abbrev pub KeptOne : List ℕ → ℕ → Record → ℕ → List ℕ → Type 0
KeptOne sheet at r n sheet' = (n ≡ kept_more sheet at r) × (sheet' ≡ sheet_more sheet at r)

module _ (sheet : List ℕ) (at : ℕ) (r : Record) where
  pub keeps_none : enough ≤ at → KeptOne sheet at r at sheet
  unfolding kept_more sheet_more
  keeps_none l = let e = le-ltb at enough l in (rw e, rw e)

  -- by what writing it answered
  pub keeps_by : {p : Result ℕ Refusal} {sheet' : List ℕ} → at < enough → p ≡ free_answer (length sheet) at r → sheet' ≡ free_bytes sheet at r → KeptOne sheet at r (result_unwrap_or p at) sheet'
  unfolding kept_more sheet_more
  keeps_by l e q = let t = lt-ltb at enough l in (rw (t, e), rw (t, q))

-- ---- What is kept of a sheet

-- k bytes in front of a run that has room for what decides a sheet, and a record more, are the first of the bytes s: all of them, or as many as decide
pub record KeptOf (sheet : List ℕ) (k : ℕ) (s : List ℕ) : Type 0 where
  pub roomy : room ≤ length sheet
  pub inside : k ≤ length sheet
  pub within : k ≤ length s
  pub far : min enough (length s) ≤ k
  pub same : take k sheet ≡ take k s

pub kept_none : (sheet : List ℕ) → room ≤ length sheet → KeptOf sheet 0 []
kept_none sheet l = record { roomy = l; inside = omega arith; within = omega arith; far = omega arith; same = refl }

-- a kind that has a word is one that the writer puts
pub word_written : (k : ℕ) → has_word k ≡ true → written k ≡ true
word_written k e = let b = both_true (not (eqb k 3)) (known k) (known_but_3 k ∙ e) in written_is k ∙ rw (b.0, b.1)

module _ {sheet : List ℕ} {k : ℕ} {s : List ℕ} (kept : KeptOf sheet k s) where
  -- a record more
  pub kept_next : (r : Record) → written r.kind ≡ true → KeptOf (sheet_more sheet k r) (kept_more sheet k r) (s ++ encode r)
  kept_next r is-written = by (dec_lt k enough)
    where
      long : length (s ++ encode r) ≡ length s + size_of r.kind
      long = length-append s (encode r) ∙ ap (λ (n : ℕ). length s + n) (length_encode r)

      by : Dec (k < enough) → KeptOf (sheet_more sheet k r) (kept_more sheet k r) (s ++ encode r)
      by (yes l) =
          let all : k ≡ length s = omega (arith, kept.far, kept.within) in
          let fits : k + size_of r.kind ≤ length sheet = omega (arith, kept.roomy, enough_is, room_is, size_at_most r.kind) in
          let free = room_free sheet k r is-written fits in
          let m = keeps_by sheet k r l free.0 free.1 in
          let n = length_encode r in
          let end = k + size_of r.kind in
          let same_length = length_pasted sheet k (encode r) (omega arith) in
          let whole : take k sheet ≡ s = kept.same ∙ take_all k s (omega arith) in
          let front : length (take k sheet ++ encode r) ≡ end = length-append (take k sheet) (encode r) ∙ omega (arith, n, length-take-le k sheet kept.inside) in
          rw (← m.0, ← m.1)
          (record {
            roomy = omega (arith, kept.roomy, same_length);
            inside = omega (arith, same_length);
            within = omega (arith, long);
            far = omega (arith, long);
            same =
                ap (take end) (pasted_front sheet k (encode r) (omega arith))
                ∙ (take_at (take k sheet ++ encode r) (drop (k + length (encode r)) sheet) end front
                ∙ (ap (λ (q : List ℕ). q ++ encode r) whole ∙ sym (take_all end (s ++ encode r) (omega (arith, long)))));
          })
      by (no l) =
          let m = keeps_none sheet k r (omega (arith, l)) in
          rw (← m.0, ← m.1)
          (record {
            roomy = kept.roomy;
            inside = kept.inside;
            within = omega (arith, long, kept.within);
            far = omega (arith, l);
            same = kept.same ∙ sym (take-append-le k s (encode r) kept.within);
          })

  -- what is kept is read as the whole
  pub kept_alike : reading (take k sheet) ≡ reading s
  kept_alike = ap reading kept.same ∙ by (dec_lt k enough)
    where
      by : Dec (k < enough) → reading (take k s) ≡ reading s
      by (yes l) = ap reading (take_all k s (omega (arith, kept.far)))
      by (no l) = reading_prefix (take k s) ∙ (ap reading (take-take enough k s (omega (arith, l))) ∙ sym (reading_prefix s))

  pub kept_whole : (S : Sheet) → reading s ≡ Read S → take k sheet ≡ s
  kept_whole S e = kept.same ∙ take_all k s (omega (arith, kept.far, length_at_most s S e, longest_sheet_is, enough_is))
