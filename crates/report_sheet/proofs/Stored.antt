-- Laws of a report that is stored at the start of a run, and of the answer for it. Assumes nothing.
use mathlib.Core.Path.{◌≡◌, ap, ◌∙◌}
use mathlib.Core.List.{List, ◌++◌}
use mathlib.Core.Bool.{Bool}
use Prim.Native.Nat.{ℕ, ◌≤◌}
use lib.ListN.{length, drop}
use Rattle.text.specs.Text.{Wrote}
use Rattle.text.proofs.Writing.{wrote_front}
use Rattle.report_phrases.specs.declared.Reported.{Reported}
use Rattle.report_phrases.specs.Reports.{told}
use Rattle.report_sheet.specs.Stored.{Reports}

-- a text that is the sheet's report, and an answer that says what its planner does
pub reports : {old u t new : List ℕ} {n : ℕ} {accepted : Bool} (a : Bool) → a ≡ accepted → u ≡ t → Wrote old 0 u new n → Reports old t accepted new (told a n)
reports {n} a p e w = record { next = n; wrote = rw e at w; says = ap (λ (b : Bool). told b n) p }

-- in a run that holds the report
pub reports_front : {old t new : List ℕ} {accepted : Bool} {r : Reported} → Reports old t accepted new r → length t ≤ length old
    → (r ≡ told accepted (length t)) × (new ≡ t ++ drop (length t) old)
reports_front {accepted} p h =
    let w = wrote_front p.wrote h in
    (p.says ∙ ap (told accepted) w.0, w.1)
