-- Laws of `export`: what reading says decides, then the first record's word, then the room. Assumes nothing.
use Prim.Native.Nat.{ℕ, ◌≤◌, ◌<◌}
use mathlib.Core.Path.{◌≡◌, sym, ap, ◌∙◌}
use mathlib.Core.List.{List}
use mathlib.Core.Bool.{Bool, true, false, not}
use borrow.Author.Tests.{lt-ltb, le-ltb}
use lib.ListN.{length}
use Rattle.common.proofs.Checks.{Applies, Clear, refused_if, passed_if}
use Rattle.common.proofs.Checks.Applies.{here, later}
use Rattle.common.proofs.Checks.Clear.{none, and}
use Rattle.text.specs.Text.{Wrote}
use Rattle.text.proofs.Writing.{wrote_front}
use Rattle.sheet_record.specs.declared.Record.{Record}
use Rattle.sheet_rules.specs.Whole.{reading}
use Rattle.sheet_read.specs.Told.{told, accepted}
use Rattle.sheet_rules.specs.Whole.Outcome.{Read}
use Rattle.sheet_rules.specs.Ready.{sheet_in}
use Rattle.sheet_read.proofs.Taken.{Taken, taken, not_taken}
use Rattle.sheet_line.specs.Lines.{has_word}
use Rattle.text.specs.Text.{over}
use Rattle.sheet_text.specs.Answers.{sheet_text, export_checks, export_answer, export_bytes}
use Rattle.std.specs.declared.result.Result.TheVariants.{Ok, Err}
use Rattle.common.specs.Checks.{refusal}
use Rattle.std.specs.declared.result.Result.{Result}
use Rattle.common.specs.declared.Refusal.{Refusal}

-- what `export` answers and leaves in the run
abbrev pub ExportedAs : List ℕ → List ℕ → Result ℕ Refusal → List ℕ → Type 0
ExportedAs old s p now = (p ≡ export_answer (length old) s) × (now ≡ export_bytes old s)

module _ (old s : List ℕ) where
  pub exported_not : (n p : ℕ) → told s (reading s) ≡ Err (refusal n p) → ExportedAs old s (Err (refusal n p)) old
  unfolding export_answer export_bytes
  exported_not n p e = let q = not_taken s n p e in (rw q, rw q)

  module _ (head : Record) (m first : ℕ) (e : told s (reading s) ≡ Ok (accepted head m first)) where
    its : Taken s head m first
    its = taken s head m first e

    pub exported_reads : reading s ≡ Read (sheet_in s)
    exported_reads = its.reads

    refused : {n p : ℕ} → Applies (export_checks (length old) (sheet_in s)) n p → ExportedAs old s (Err (refusal n p)) old
    unfolding export_answer export_bytes
    refused a = let v = refused_if a in (rw (exported_reads, v), rw (exported_reads, v))

    passed : Clear (export_checks (length old) (sheet_in s)) → ExportedAs old s (Ok (length (sheet_text (sheet_in s)))) (over (sheet_text (sheet_in s)) old)
    unfolding export_answer export_bytes
    passed c = let v = passed_if c in (rw (exported_reads, v), rw (exported_reads, v))

    module _ (w : Bool) (is : w ≡ has_word head.kind) where
      head_word : has_word (sheet_in s).head.kind ≡ w
      head_word = ap (λ (r : Record). has_word r.kind) (sym its.begins) ∙ sym is

      pub exported_wordless : not w ≡ true → ExportedAs old s (Err (refusal 2 0)) old
      unfolding export_checks
      exported_wordless f = refused (here (ap not head_word ∙ f))

      module _ (n : ℕ) (t : not w ≡ false) (long : n ≡ length (sheet_text (sheet_in s))) where
        pub exported_short : length old < n → ExportedAs old s (Err (refusal 13 n)) old
        unfolding export_checks
        exported_short l = rw long (refused (later (ap not head_word ∙ t) (here (lt-ltb _ _ (rw long at l)))))

        pub exported_whole : {new : List ℕ} {k : ℕ} → n ≤ length old → Wrote old 0 (sheet_text (sheet_in s)) new k → ExportedAs old s (Ok k) new
        unfolding export_checks
        exported_whole l o =
            let h : length (sheet_text (sheet_in s)) ≤ length old = rw long at l in
            let f = wrote_front o h in
            rw (f.0, f.1) (passed (and (ap not head_word ∙ t) (and (le-ltb _ _ h) none)))
