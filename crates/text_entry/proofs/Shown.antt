-- A number that a report shows is entered as itself. Assumes nothing.
use Prim.Native.Nat.{ℕ, zero, suc, ◌/◌, ◌^◌, ◌<◌, min}
use mathlib.Core.Path.{◌≡◌, refl, ◌∙◌}
use mathlib.Core.List.{List, [], ◌∷◌, ◌++◌}
use mathlib.Core.Bool.{Bool, true, false, ◌&&◌}
use native.Mathlib.Omega.{arith}
use lib.ListN.{length}
use Rattle.common.proofs.Firsts.{first_is}
use Rattle.text.specs.Text.{digit, places, holds, width_of, decimal, read_behind}
use Rattle.text.proofs.Numbers.{length_places, decimal_reads_back}
use Rattle.text_entry.specs.Entered.{is_digit, all_digits, entered_of}
use Rattle.text_entry.proofs.Laws.{is_digit_law, entered_behind, entered_some}
use Rattle.std.specs.declared.result.Result.TheVariants.{Ok, Err}
use Rattle.std.specs.declared.option.Option.TheVariants.{Some}

-- a digit in front, and what is known of the rest
in_front : (a x y : Bool) → (a && x) ≡ true → (x ≡ true → y ≡ true) → (a && y) ≡ true
in_front true x y e rest = rest e
in_front false x y e rest = e

digits_append : (p q : List ℕ) → all_digits p ≡ true → all_digits q ≡ true → all_digits (p ++ q) ≡ true
unfolding all_digits
digits_append [] q e f = f
digits_append (b ∷ p) q e f = in_front (is_digit b) (all_digits p) (all_digits (p ++ q)) e (λ h. digits_append p q h f)

digits_of : (k n : ℕ) → all_digits (places k n) ≡ true
unfolding all_digits places
digits_of zero n = refl
digits_of (suc k) n = digits_append (places k (n / 10)) (digit n ∷ []) (digits_of k (n / 10)) (rw (is_digit_law (digit n) (omega arith) (omega arith)))

-- a number's text is digits
pub decimal_digits : (n : ℕ) → all_digits (decimal n) ≡ true
unfolding decimal
decimal_digits n = digits_of (width_of n) n

pub shown_is_entered : (n : ℕ) → n < 2 ^ 32 → entered_of (decimal n) ≡ Some n
unfolding decimal width_of entered_behind
shown_is_entered n small =
    let some : length (decimal n) ≡ 0 → ⊥ = λ e. omega (arith, e, length_places (width_of n) n, (first_is (holds n) 20 1).from) in
    let value : min (read_behind 0 (decimal n)) 4294967295 ≡ n = omega (arith, decimal_reads_back n (omega arith)) in
    entered_some (decimal n) some ∙ rw (decimal_digits n, value)
