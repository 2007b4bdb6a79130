-- Page 01, 'Sheet records': walks over sheets in bytes. Assumes nothing.
use mathlib.Core.Path.{◌≡◌, refl}
use mathlib.Core.List.{List, [], ◌∷◌, ◌++◌}
use Prim.Native.Nat.{ℕ}
use Rattle.sheet_reader.specs.Walk.{place_after, count}

-- WorldFIP's first record, of 5 bytes, and a variable, of 7
two : List ℕ
two = 5 ∷ 0 ∷ 0 ∷ 1 ∷ 144 ∷ 6 ∷ 0 ∷ 17 ∷ 0 ∷ 0 ∷ 3 ∷ 232 ∷ []

-- a step leads behind each, and at the end it stays
steps : place_after two 1 ∷ place_after two 2 ∷ place_after two 3 ∷ [] ≡ 5 ∷ 12 ∷ 12 ∷ []
unfolding two place_after
steps = refl

whole : count two ≡ 2
unfolding two count
whole = refl

-- a record that is cut short is not counted, nor what stands behind an unknown kind
cut : count (two ++ (6 ∷ 0 ∷ [])) ≡ 2
unfolding two count
cut = refl

unknown : count (two ++ (99 ∷ two)) ≡ 2
unfolding two count
unknown = refl

-- whether the sheet is accepted or not: a first record behind another
again : count (two ++ two) ≡ 4
unfolding two count
again = refl
