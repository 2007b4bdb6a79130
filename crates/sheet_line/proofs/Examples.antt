-- Page 02, 'Ask 14': kinds that have no word, and records that no line says, worked out by the checker. Assumes nothing.
use Prim.Native.Nat.{ℕ}
use mathlib.Core.Path.{◌≡◌, refl}
use mathlib.Core.List.{[], ◌∷◌, map}
use mathlib.Core.Bool.{true, false}
use Rattle.sheet_record.specs.declared.Record.{Record}
use Rattle.sheet_record.specs.Kinds.{nothing}
use Rattle.sheet_line.specs.Lines.{has_word, line_text, sayable}

abbrev pub of : ℕ → ℕ → ℕ → ℕ → ℕ → Record
of k a b c d = record { kind = k; a = a; b = b; c = c; d = d; e = 0 }

-- kinds 0 and 3, and those that are not known, have no word and no line
words : map has_word (0 ∷ 1 ∷ 2 ∷ 3 ∷ 4 ∷ 5 ∷ 6 ∷ 7 ∷ 8 ∷ 9 ∷ 10 ∷ 11 ∷ [])
    ≡ false ∷ true ∷ true ∷ false ∷ true ∷ true ∷ true ∷ true ∷ true ∷ true ∷ true ∷ false ∷ []
unfolding has_word
words = refl

no_line : (line_text (of 3 2 500 300 0) ≡ []) × (sayable (of 3 2 500 300 0) ≡ false) × (line_text nothing ≡ [])
unfolding line_text sayable
no_line = (refl, refl, refl)

-- a number past its bytes, or in a field that there is not
not_sayable : map sayable (of 1 256 0 0 0 ∷ of 1 1 1 0 0 ∷ of 2 1 65536 1 1 ∷ of 2 1 1 4294967296 1 ∷ of 6 65536 1 0 0 ∷ of 9 1 1 1 0 ∷ of 10 256 1 0 0 ∷ [])
    ≡ false ∷ false ∷ false ∷ false ∷ false ∷ false ∷ false ∷ []
unfolding sayable
not_sayable = refl
