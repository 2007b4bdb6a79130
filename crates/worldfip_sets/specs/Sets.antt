-- Page 01, 'WorldFIP table': a row is one 64-bit number, bit r for the variable of rank r counted from 0. A set of variables is the
-- number that the code holds. Assumes nothing.
use Rattle.std.specs.Prelude.{Bool, cond, ℕ, zero, suc, ◌/◌, ◌%◌, ◌^◌, eqb, ltb}
use Rattle.std.specs.Int.Bits.{bit_or, bit_xor}
use Rattle.std.specs.Int.Count.{count_trailing_zeros}
use Rattle.common.specs.Sums.{when}

-- 1 if r is in the set x, else 0
unfoldable pub bit : ℕ → ℕ → ℕ
bit x r = x / 2 ^ r % 2

-- the set of r alone; no set has a member from 64 on
unfoldable pub alone : ℕ → ℕ
alone r = when (ltb r 64) (2 ^ r)

-- the set of those r below n for which f holds
unfoldable pub set_of : (ℕ → Bool) → ℕ → ℕ
set_of f zero = 0
set_of f (suc n) = bit_or (set_of f n) (when (f n) (2 ^ n))

-- the best rank of a set: its lowest member, and 64 where it has none
unfoldable pub lowest : ℕ → ℕ
unfolding count_trailing_zeros
lowest x = count_trailing_zeros 64 x

-- ---- Serving, for any choice `best` of the member that goes first

-- what is left of the set x when its best member is taken out s times, or until nothing is left
unfoldable pub left : (ℕ → ℕ) → ℕ → ℕ → ℕ
left best zero x = x
left best (suc s) x = let r = left best s (bit_xor x (2 ^ best x)) in cond (eqb x 0) 0 r

-- the s best members of the set x
unfoldable pub served : (ℕ → ℕ) → ℕ → ℕ → ℕ
unfolding left
served best s x = bit_xor x (left best s x)
