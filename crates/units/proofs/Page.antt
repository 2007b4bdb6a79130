-- Page 01, 'Units', the six lines of its table, and the line of 'Errors an honest builder makes' on rounding; page 02, 'Ask 5', the figures
-- in ns. Assumes nothing.
use mathlib.Core.Path.{◌≡◌, refl}
use mathlib.Core.List.{List, [], ◌∷◌}
use mathlib.Core.Bool.{Bool, true, ◌&&◌}
use Prim.Native.Nat.{ℕ}
use lib.Dec.{eqb}
use Rattle.common.specs.Sums.{up}
use Rattle.units.specs.Units.{bp, us, ns, micros_up, nanos_up, periods_down}

-- a line of the table: a count of bp and its us, rounded up; or a count of us and its bp, rounded down
pub data Line : Type 0 where
  bp_up : ℕ → ℕ → Line
  us_down : ℕ → ℕ → Line

unfoldable pub right : Line → Bool
unfolding micros_up periods_down up
right (bp_up b u) = eqb (micros_up (bp b)).0 u
right (us_down u b) = eqb (periods_down (us u)).0 b

unfoldable pub all : List Line → Bool
unfolding right
all [] = true
all (l ∷ ls) = right l && all ls

unfoldable pub six_lines : List Line
six_lines =
    bp_up 0 0
    ∷ bp_up 1 14
    ∷ bp_up 48 625
    ∷ bp_up 2000 26042
    ∷ us_down 26041 1999
    ∷ us_down 26042 2000
    ∷ []

pub six_lines_right : all six_lines ≡ true
unfolding all six_lines right
six_lines_right = refl

-- a bound is not rounded to the nearest us
pub not_to_the_nearest : micros_up (bp 48001) ≡ us 625014
unfolding micros_up up
not_to_the_nearest = refl

-- page 02: 1,000 bp; and 48 bp are 625 us still, with nothing lost
in_ns_law : (nanos_up (bp 1000) ≡ ns 13020834) × (nanos_up (bp 6) ≡ ns 78125) × (nanos_up (bp 48) ≡ ns 625000) × (nanos_up (bp 0) ≡ ns 0)
unfolding nanos_up up
in_ns_law = (refl, refl, refl, refl)
