-- Sums, greatest figures and counts over numbers that begin at 1, as page 01 numbers masters and streams, and sums that begin at 0,
-- as it numbers ranks and rows. Assumes nothing.
use Rattle.std.specs.Prelude.{ℕ, zero, suc, ◌+◌, ◌-◌, ◌/◌, max, Bool, cond}

-- x where the test holds, else 0
abbrev pub when : Bool → ℕ → ℕ
when b x = cond b x 0

-- f 1 + .. + f n
unfoldable pub upto : (ℕ → ℕ) → ℕ → ℕ
upto f zero = 0
upto f (suc n) = upto f n + f (suc n)

-- f 0 + .. + f (n - 1)
unfoldable pub sum : (ℕ → ℕ) → ℕ → ℕ
sum f zero = 0
sum f (suc n) = sum f n + f n

-- the greatest of f 1, .., f n, and 0 where n is 0
unfoldable pub greatest : (ℕ → ℕ) → ℕ → ℕ
greatest f zero = 0
greatest f (suc n) = max (greatest f n) (f (suc n))

-- x/t rounded up
unfoldable pub up : ℕ → ℕ → ℕ
up x t = (x + (t - 1)) / t

-- the first of i, i + 1, .., i + n - 1 at which f holds, and i + n where it holds at none
unfoldable pub first_of : (ℕ → Bool) → ℕ → ℕ → ℕ
first_of f zero i = i
first_of f (suc n) i = let r = first_of f n (suc i) in cond (f i) i r
