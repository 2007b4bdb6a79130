-- Page 01, 'Sheets worked by hand': a report that stands at the start of a run, as far as the run goes, and the answer for it. Assumes nothing.
use Rattle.std.specs.Prelude.{◌≡◌, List, Bool, ℕ}
use Rattle.text.specs.Text.{Wrote}
use Rattle.report_phrases.specs.declared.Reported.{Reported}
use Rattle.report_phrases.specs.Reports.{told}

-- the report t of a sheet that is accepted or not was stored in the run `old`: what the run then is, and the answer
pub record Reports (old t : List ℕ) (accepted : Bool) (new : List ℕ) (r : Reported) : Type 0 where
  pub next : ℕ
  pub wrote : Wrote old 0 t new next
  pub says : r ≡ told accepted next
