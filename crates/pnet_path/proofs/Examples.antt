-- Page 02, 'Ask 4': paths worked by hand, from the bytes of their sheets to the answer. Assumes nothing.
use mathlib.Core.Path.{◌≡◌, refl}
use mathlib.Core.Bool.{cond}
use mathlib.Core.List.{List, [], ◌∷◌}
use Prim.Native.Nat.{ℕ}
use lib.Dec.{eqb}
use Rattle.units.specs.Units.{bp}
use Rattle.pnet_path.specs.Path.{Path, crossed}
use Rattle.std.specs.declared.result.Result.TheVariants.{Ok, Err}
use Rattle.common.specs.Checks.{refusal}

-- N masters, of which the first two have a stream each, C = 203, T = D = 9,999: with N = 2, R is 500 for both
unfoldable pub sheet : ℕ → List ℕ
sheet N =
    1 ∷ N
    ∷ 2 ∷ 1 ∷ 0 ∷ 203 ∷ 0 ∷ 0 ∷ 39 ∷ 15 ∷ 0 ∷ 0 ∷ 39 ∷ 15
    ∷ 2 ∷ 2 ∷ 0 ∷ 203 ∷ 0 ∷ 0 ∷ 39 ∷ 15 ∷ 0 ∷ 0 ∷ 39 ∷ 15
    ∷ []

-- n segments with a gateway of F bp between any two: the first has the sheet of two masters and 1 sends there,
-- the others have s and k sends
abbrev pub path : ℕ → ℕ → List ℕ → ℕ → ℕ → Path
path n F s k D = record { segments = n; hop = λ i. record { forwarding = F; sheet = cond (eqb i 1) (sheet 2) s; sender = cond (eqb i 1) 1 k }; deadline = D }

-- 500 + 30 + 500 + 30 is within D,
pub at_the_deadline : crossed (path 2 30 (sheet 2) 2 1060) ≡ Ok (bp 1060)
unfolding crossed sheet
at_the_deadline = refl

-- and one above it
pub above_the_deadline : crossed (path 2 30 (sheet 2) 2 1059) ≡ Err (refusal 19 0)
unfolding crossed sheet
above_the_deadline = refl

-- no gateway: one segment, and none
pub one_segment : crossed (path 1 30 (sheet 2) 2 1060) ≡ Err (refusal 17 0)
unfolding crossed sheet
one_segment = refl

pub no_segment : crossed (path 0 30 (sheet 2) 2 1060) ≡ Err (refusal 17 0)
unfolding crossed sheet
no_segment = refl

-- eleven gateways
pub twelve_segments : crossed (path 12 30 (sheet 2) 2 10000) ≡ Err (refusal 17 11)
unfolding crossed sheet
twelve_segments = refl

-- an empty sheet on each segment behind the first: its own comes before 17
pub empty_sheet : crossed (path 12 30 [] 2 10000) ≡ Err (refusal 1 0)
unfolding crossed sheet
empty_sheet = refl

-- a forwarding time of 1,000,001 comes before D
pub too_long_a_time : crossed (path 2 1000001 (sheet 2) 2 0) ≡ Err (refusal 4 1)
unfolding crossed sheet
too_long_a_time = refl

-- D comes before the senders
pub no_deadline : crossed (path 2 30 (sheet 2) 9 0) ≡ Err (refusal 4 0)
unfolding crossed sheet
no_deadline = refl

-- master 9 is not there, which comes before the total
pub absent_sender : crossed (path 2 30 (sheet 2) 9 1) ≡ Err (refusal 18 2)
unfolding crossed sheet
absent_sender = refl

-- master 3 is there, without streams
pub silent_sender : crossed (path 2 30 (sheet 3) 3 1) ≡ Err (refusal 18 2)
unfolding crossed sheet
silent_sender = refl
