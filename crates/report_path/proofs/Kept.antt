-- Laws of the report by what is kept of a path: whose it is, and how it stands in a lent run. Assumes nothing.
use mathlib.Core.Path.{◌≡◌, refl, sym, ap, ◌∙◌}
use mathlib.Core.List.{List}
use mathlib.Core.Bool.{Bool, true, false, ◌||◌}
use Prim.Native.Nat.{ℕ, ◌-◌, ◌≤◌, ◌<◌}
use native.Mathlib.Omega.{arith}
use borrow.Author.Tests.{lt-ltb, le-ltb}
use lib.Dec.{ltb}
use lib.ListN.{length}
use Rattle.common.proofs.Outside.{inside}
use Rattle.units.specs.declared.BitPeriods.{BitPeriods}
use Rattle.pnet_path.specs.Ways.{answer_of}
use Rattle.pnet_path.specs.declared.Way.{Way}
use Rattle.pnet_crossing.proofs.Checked.{too_many}
use Rattle.pnet_path.proofs.Laws.{answer_of_refused, answer_of_others}
use Rattle.text.specs.Text.{Wrote}
use Rattle.text.proofs.Writing.{wrote_front}
use Rattle.report_path_lines.specs.Lines.{sheet_refusal}
use Rattle.report_phrases.specs.Reports.{told}
use Rattle.report_path.specs.Told.{most_path}
use Rattle.report_path.specs.Report.{is_within}
use Rattle.report_path.specs.Kept.{answer_text_of, refused_text_or, report_of, accepts_of, told_in, run_with}
use Rattle.std.specs.declared.result.Result.TheVariants.{Ok, Err}
use Rattle.common.specs.Checks.{refusal}
use Rattle.std.specs.declared.result.Result.{Result}
use Rattle.std.specs.declared.option.Option.{Option}
use Rattle.std.specs.declared.option.Option.TheVariants.{Some, None}
use Rattle.common.specs.declared.Refusal.{Refusal}
use Rattle.sheet_read.specs.Told.{accepted}

-- ---- Whose report it is

module _ (w : Way) (D : BitPeriods) where
  -- that of a sheet which is refused
  pub refused_report : (r : Refusal) → w.refused ≡ Some r → (false ≡ accepts_of w D) × (sheet_refusal w.segments r.no r.place ≡ report_of w D)
  unfolding accepts_of report_of
  refused_report r e = (ap is_within (answer_of_refused w D.0 e), rw e)

  -- what the path is answered
  pub answered_report : w.refused ≡ None → (c : Result BitPeriods Refusal) → c ≡ answer_of w D.0 → (is_within c ≡ accepts_of w D) × (answer_text_of w D c ≡ report_of w D)
  unfolding accepts_of report_of
  answered_report e c is =
      let text : Option Refusal → Result BitPeriods Refusal → List ℕ = λ r x. refused_text_or w.segments r (answer_text_of w D x) in
      (ap is_within is, ap (λ (r : Option Refusal). text r c) (sym e) ∙ ap (text w.refused) is)

  -- a path that is accepted has eleven segments at most
  pub few_segments : w.refused ≡ None → (t : BitPeriods) → Ok t ≡ answer_of w D.0 → (1 ≤ w.segments) × (w.segments ≤ 11)
  few_segments e t is = split (ltb g 1 || ltb 10 g) refl
    where
      g : ℕ
      g = w.segments - 1

      split : (b : Bool) → (ltb g 1 || ltb 10 g) ≡ b → (1 ≤ w.segments) × (w.segments ≤ 11)
      split true many =
          let no = answer_of_others w D.0 e g refl (Err (refusal 17 g)) (too_many _ _ _ g _ many) in
          let never : true ≡ false = ap is_within (is ∙ sym no) in
          let z : ◌≡◌ {A = ℕ} 0 1 = cc in
          absurd (omega arith)
      split false few = let r = inside 1 g 10 few in (omega (arith, r.0), omega (arith, r.1))

-- ---- In a lent run

-- without room for every report nothing is written
pub no_room : (old t : List ℕ) (accepted : Bool) → length old < most_path → (None ≡ told_in (length old) accepted t) × (old ≡ run_with old t)
unfolding told_in run_with
no_room old t accepted short = (simp (lt-ltb (length old) most_path short), simp (lt-ltb (length old) most_path short))

-- with it, a text u that is the report t is written whole
pub written : {old u t new : List ℕ} {n : ℕ} {accepted : Bool} (a : Bool) → (a ≡ accepted) × (u ≡ t) → length u ≤ most_path → most_path ≤ length old
    → Wrote old 0 u new n → (Some (told a n) ≡ told_in (length old) accepted t) × (new ≡ run_with old t)
unfolding told_in run_with
written {old} {u} {t} {new} {n} a is short room wrote =
    let w = wrote_front wrote (omega arith) in
    let fits = le-ltb (length old) most_path room in
    rw (← is.0, ← is.1, fits) (ap (λ (k : ℕ). Some (told a k)) w.0, w.1)
