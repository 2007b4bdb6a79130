-- Page 02, 'Ask 4': a number as a user enters it, beside its unit. Assumes nothing.
use Rattle.std.specs.Prelude.{ℕ, ◌+◌, ◌-◌, ◌*◌, min, List, [], ◌∷◌, Bool, true, cond, not, ◌&&◌, length, eqb, leb}
use Rattle.text.specs.Text.{read_behind}
use Rattle.std.specs.declared.result.Result.TheVariants.{Ok, Err}
use Rattle.std.specs.declared.result.Result.{Result}
use Rattle.std.specs.declared.option.Option.{Option}
use Rattle.std.specs.declared.option.Option.TheVariants.{Some, None}

-- `0` to `9`
unfoldable pub is_digit : ℕ → Bool
is_digit b = leb 48 b && leb b 57

-- a number with one byte more behind it: another digit, as far as 32 bits go; what is no digit changes nothing
unfoldable pub with_byte : ℕ → ℕ → ℕ
unfolding is_digit
with_byte n b = cond (is_digit b) (min (n * 10 + (b - 48)) 4294967295) n

unfoldable pub all_digits : List ℕ → Bool
unfolding is_digit
all_digits [] = true
all_digits (b ∷ t) = is_digit b && all_digits t

-- one decimal digit or more, and nothing else. A number that 32 bits do not hold counts as the greatest that they hold: both are out of every range
unfoldable pub entered_of : List ℕ → Option ℕ
unfolding all_digits read_behind
entered_of t = cond (not (eqb (length t) 0) && all_digits t) (Some (min (read_behind 0 t) 4294967295)) None
