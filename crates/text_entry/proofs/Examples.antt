-- Numbers as they may be entered, and words that are none, worked out by the checker. Assumes nothing.
use mathlib.Core.Path.{◌≡◌, refl}
use mathlib.Core.List.{[]}
use Rattle.text.specs.Text.{word}
use Rattle.text_entry.specs.Entered.{entered_of}
use Rattle.std.specs.declared.result.Result.TheVariants.{Ok, Err}
use Rattle.std.specs.declared.option.Option.TheVariants.{Some, None}

numbers : (entered_of (word "26000") ≡ Some 26000) × (entered_of (word "0") ≡ Some 0) × (entered_of (word "007") ≡ Some 7)
unfolding entered_of
numbers = (refl, refl, refl)

-- the greatest number of 32 bits, and greater ones, which count as it
greatest : (entered_of (word "4294967295") ≡ Some 4294967295) × (entered_of (word "4294967296") ≡ Some 4294967295)
    × (entered_of (word "99999999999999999999") ≡ Some 4294967295)
unfolding entered_of
greatest = (refl, refl, refl)

-- a byte that is no digit, and no digit at all
none : (entered_of (word "12a") ≡ None) × (entered_of (word "-1") ≡ None) × (entered_of [] ≡ None)
unfolding entered_of
none = (refl, refl, refl)
