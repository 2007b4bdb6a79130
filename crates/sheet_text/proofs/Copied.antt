-- Laws of a sheet that is written as it is: what reading it says decides. Assumes nothing.
use Prim.Native.Nat.{ℕ, ◌≤◌, ◌<◌}
use mathlib.Core.Path.{◌≡◌, refl, sym, ap, ◌∙◌}
use mathlib.Core.List.{List}
use borrow.Author.Tests.{lt-ltb, le-ltb}
use lib.ListN.{length}
use Rattle.common.specs.Checks.{verdict}
use Rattle.text.specs.Text.{Wrote}
use Rattle.text.proofs.Writing.{wrote_front}
use Rattle.sheet_record.specs.declared.Record.{Record}
use Rattle.sheet_rules.specs.Sheets.{Sheet}
use Rattle.sheet_rules.specs.Whole.{Outcome, reading}
use Rattle.sheet_read.specs.Told.{told, accepted}
use Rattle.sheet_rules.specs.Whole.Outcome.{Read, Not}
use Rattle.sheet_read.proofs.Taken.{taken, not_taken}
use Rattle.sheet_text.specs.Answers.{copy_answer, copy_bytes}
use Rattle.std.specs.declared.result.Result.TheVariants.{Ok, Err}
use Rattle.common.specs.Checks.{refusal}
use Rattle.std.specs.declared.result.Result.{Result}
use Rattle.common.specs.declared.Refusal.{Refusal}

-- what `copy` answers and leaves in the run
abbrev pub CopiedAs : List ℕ → List ℕ → Result ℕ Refusal → List ℕ → Type 0
CopiedAs old s p now = (p ≡ copy_answer (length old) s) × (now ≡ copy_bytes old s)

module _ (old s : List ℕ) where
  refused : {n p : ℕ} → reading s ≡ Not n p → CopiedAs old s (Err (refusal n p)) old
  unfolding copy_answer copy_bytes
  refused q = (rw q, rw q)

  pub copied_not : (n p : ℕ) → told s (reading s) ≡ Err (refusal n p) → CopiedAs old s (Err (refusal n p)) old
  copied_not n p e = refused (not_taken s n p e)

  module _ (head : Record) (m first : ℕ) (e : told s (reading s) ≡ Ok (accepted head m first)) where
    pub copied_short : length old < length s → CopiedAs old s (Err (refusal 13 (length s))) old
    unfolding copy_answer copy_bytes verdict
    copied_short l =
        let q = (taken s head m first e).reads in
        let t = lt-ltb (length old) (length s) l in
        (rw (q, t), rw (q, t))

    pub copied_whole : {new : List ℕ} {n : ℕ} → length s ≤ length old → Wrote old 0 s new n → CopiedAs old s (Ok n) new
    unfolding copy_answer copy_bytes verdict
    copied_whole l w =
        let q = (taken s head m first e).reads in
        let t = le-ltb (length old) (length s) l in
        let f = wrote_front w l in
        (rw (q, t) (ap Ok f.0), rw (q, t) f.1)

-- bytes that are read as a sheet is, and are that sheet where it is accepted, are copied as it is
pub copied_alike : (old a s : List ℕ) {p : Result ℕ Refusal} {now : List ℕ} → reading a ≡ reading s → ((S : Sheet) → reading s ≡ Read S → a ≡ s) → CopiedAs old a p now → CopiedAs old s p now
copied_alike old a s {p} {now} alike whole copied = by (reading s) refl
  where
    by : (o : Outcome) → reading s ≡ o → CopiedAs old s p now
    by (Read S) r = rw (whole S r) at copied
    by (Not n q) r =
        let b = refused old s r in
        let c = refused old a (alike ∙ r) in
        (copied.0 ∙ (sym c.0 ∙ b.0), copied.1 ∙ (sym c.1 ∙ b.1))
