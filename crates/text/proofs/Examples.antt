-- Words and numbers as text, and what is left out of a text that does not fit, worked out by the checker. Assumes nothing.
use mathlib.Core.Path.{◌≡◌, refl}
use mathlib.Core.List.{List, [], ◌∷◌}
use Prim.Native.Nat.{ℕ}
use lib.Seq.{sets}
use Rattle.common.specs.Sums.{first_of}
use Rattle.text.specs.Text.{word, places, holds, width_of, decimal, counted, behind}

abbrev run : List ℕ
run = 0 ∷ 0 ∷ 0 ∷ 0 ∷ []

fits : (sets run 1 (word "abc") ≡ 0 ∷ word "abc") × (behind 4 1 (word "abc") ≡ 4)
unfolding behind
fits = (refl, refl)

-- the last byte is left out
cut : (sets run 2 (word "abc") ≡ 0 ∷ 0 ∷ word "ab") × (behind 4 2 (word "abc") ≡ 4)
unfolding behind
cut = (refl, refl)

-- nothing of the text is stored
outside : (sets run 9 (word "abc") ≡ run) × (behind 4 9 (word "abc") ≡ 9)
unfolding behind
outside = (refl, refl)

numbers : (decimal 0 ≡ word "0") × (decimal 700 ≡ word "700") × (places 2 7 ≡ word "07") × (counted (word "row ") 12 (word ":") ≡ word "row 12:")
unfolding decimal places width_of holds first_of counted
numbers = (refl, refl, refl, refl)
