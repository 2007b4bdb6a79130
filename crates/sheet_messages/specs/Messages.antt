-- Page 02, Ask 8: the longest messages of a ring's masters as they are kept, at place y that of master y, and 0 where none is given. Words of inner contracts,
-- but for `message_by`. Assumes nothing.
use Rattle.std.specs.Prelude.{ℕ, zero, suc, List, Bool, false, cond, ◌||◌, get_or, ltb, eqb}

-- a longest message that is missing counts as 100,000
unfoldable pub message_by : ℕ → ℕ
message_by zero = 100000
message_by (suc m) = suc m

-- one of masters 1..n has none
unfoldable pub lacks_in : ℕ → List ℕ → Bool
lacks_in zero given = false
lacks_in (suc n) given = lacks_in n given || eqb (get_or given (suc n) 0) 0

-- what counts for master y, by what counts for each: there are 32 masters at most, and a number past them has what place 0 has, which is no master
unfoldable pub message_at : List ℕ → ℕ → ℕ
message_at messages y = get_or messages (cond (ltb 32 y) 0 y) 0
