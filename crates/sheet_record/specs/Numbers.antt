-- Page 01, 'Sheet records': numbers are big-endian. Over the width, in bytes. Assumes nothing.
use Rattle.std.specs.Prelude.{ℕ, zero, suc, ◌+◌, ◌*◌, ◌/◌, ◌%◌, List, [], ◌∷◌, ◌++◌, length, get_or, take, drop}

-- the number in the w bytes from place `at`, the highest first
unfoldable pub be : List ℕ → ℕ → ℕ → ℕ
be s at zero = 0
be s at (suc w) = be s at w * 256 + get_or s (at + w) 0

-- the w bytes of v, the highest first
unfoldable pub digits : ℕ → ℕ → List ℕ
digits zero v = []
digits (suc w) v = digits w (v / 256) ++ (v % 256 ∷ [])

-- s with the bytes p from place `at` on
abbrev pub pasted : List ℕ → ℕ → List ℕ → List ℕ
pasted s at p = take at s ++ (p ++ drop (at + length p) s)
