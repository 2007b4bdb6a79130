-- What an answer to a piece tells. Assumes nothing.
use Rattle.std.proofs.Common.{◌≡◌, ℕ, List, true, false, refl, ap, arith}
use Rattle.std.specs.Bool.{⊤}
use Rattle.std.specs.Result.{is_err}
use Rattle.std.specs.declared.result.Result.{Result}
use Rattle.std.specs.declared.result.Result.TheVariants.{Ok, Err}
use Rattle.common.specs.declared.Refusal.{Refusal}
use Rattle.capture_tally.specs.Pieces.{run_by}

-- a refused piece is not taken
pub refused_not_all : {A : Type 0} {r : Refusal} → ◌≡◌ {A = Result ⊤ Refusal} (Err r) (Ok tt) → A
refused_not_all e = let z : ◌≡◌ {A = ℕ} 0 1 = cc in absurd (omega arith)

-- each run is as it was
pub keeps : (r q : Result ⊤ Refusal) → r ≡ q → is_err r ≡ true → (new old : List ℕ) → old ≡ run_by q new old
keeps r (Ok x) t e new old = let z : is_err r ≡ false = ap is_err t in cc
keeps r (Err x) t e new old = refl

-- and where none is, all is taken
pub takes_all : (r : Result ⊤ Refusal) → is_err r ≡ false → r ≡ Ok tt
takes_all (Ok x) e = refl
takes_all (Err r) e = cc
