-- A search that puts a right side for its unknown again and again, from a start z: page 01, 'P-NET bounds', for W from 0; page 02, 'Ask 11', for x from V.
-- Assumes nothing.
use Rattle.std.specs.Prelude.{ℕ, zero, suc, ◌<◌, ◌≡◌, Bool, eqb}
use Rattle.common.specs.Sums.{first_of}

-- value m of the sequence; value 0 is the start
unfoldable pub value_from : ℕ → (ℕ → ℕ) → ℕ → ℕ
value_from z f zero = z
value_from z f (suc m) = f (value_from z f m)

-- value m equals the next one
unfoldable pub stands : ℕ → (ℕ → ℕ) → ℕ → Bool
unfolding value_from
stands z f m = eqb (value_from z f m) (value_from z f (suc m))

-- the first m, of 0..most, whose value equals the next one
unfoldable pub rounds_from : ℕ → (ℕ → ℕ) → ℕ → ℕ
unfolding first_of stands
rounds_from z f most = first_of (stands z f) most 0

-- the same without a limit: value m equals the next one, and no value before it does
pub record Settles (z : ℕ) (f : ℕ → ℕ) (m : ℕ) : Type 0 where
  pub still : value_from z f m ≡ value_from z f (suc m)
  pub first : (j : ℕ) → j < m → value_from z f j ≡ value_from z f (suc j) → ⊥
