-- A lent run of numbers after a call. Assumes nothing.
use Rattle.std.specs.Prelude.{ℕ, zero, suc, List, [], ◌∷◌, ◌++◌, drop}

-- f 0, .., f (n - 1)
unfoldable pub tab : (ℕ → ℕ) → ℕ → List ℕ
tab f zero = []
tab f (suc n) = tab f n ++ (f n ∷ [])

-- the run `old` with f 0, .., f (n - 1) in its first n places; later places keep what they had
unfoldable pub filled : (ℕ → ℕ) → ℕ → List ℕ → List ℕ
unfolding tab
filled f n old = tab f n ++ drop n old
