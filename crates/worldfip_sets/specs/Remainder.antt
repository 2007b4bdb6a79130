-- Page 01, 'WorldFIP table': the highest common factor, found by repeated remainder, and from it the least common multiple.
-- Assumes nothing.
use Rattle.std.specs.Prelude.{cond, ℕ, zero, suc, ◌*◌, ◌/◌, ◌%◌, eqb}
use Rattle.std.specs.Int.{◌∣◌}

-- g is the highest common factor of a and b: it divides both, and whatever divides both divides g
pub record Common (a b g : ℕ) : Type 0 where
  pub first : g ∣ a
  pub second : g ∣ b
  pub highest : (d : ℕ) → d ∣ a → d ∣ b → d ∣ g

-- by repeated remainder, in at most so many steps
unfoldable pub remainders : ℕ → ℕ → ℕ → ℕ
remainders zero a b = a
remainders (suc steps) a b = let r = remainders steps b (a % b) in cond (eqb b 0) a r

-- the remainder falls, so b + 1 steps are enough
unfoldable pub hcf : ℕ → ℕ → ℕ
unfolding remainders
hcf a b = remainders (suc b) a b

unfoldable pub lcm : ℕ → ℕ → ℕ
unfolding hcf
lcm a b = a / hcf a b * b
