-- `report_faults::is_clean` answers whether nothing is wrong.
use mathlib.Core.Path.{◌≡◌, refl}
use mathlib.Core.Bool.{Bool, not, ◌&&◌}
use Prim.Native.Nat.{ℕ}
use lib.Dec.{eqb}
use Rattle.text.specs.Text.{item}
use Rattle.report_faults.specs.Faults.{exceeding, clean}
use Rattle.report_faults.proofs.is_clean.Goals as goal

-- by what the code has counted
counted-clean : (above late answers : ℕ → ℕ) (soon : ℕ) (broken : Bool) (n over overdue heard : ℕ)
    → over ≡ exceeding above n → overdue ≡ exceeding late n → heard ≡ exceeding answers n
    → (eqb over 0 && eqb overdue 0 && eqb soon 0 && not broken && not (eqb heard 0)) ≡ clean above late answers soon broken n
unfolding clean
counted-clean above late answers soon broken n over overdue heard e f g = rw (e, f, g) refl

pub returns : goal.returns
returns c =
    let n = c in
    let a = n.args in
    rw (← n.shown-n.ensures)
    (counted-clean (item a.above.now) (item a.late.now) (item a.answers.now) a.soon a.broken _ _ _ _
    c.exceeding-over.ensures c.exceeding-open.ensures c.exceeding-heard.ensures)
