-- Closed examples. Assumes nothing.
use mathlib.Core.Path.{◌≡◌, refl}
use mathlib.Core.List.{[], ◌∷◌}
use Rattle.text.specs.Text.{word}
use Rattle.text_hex.specs.Hex.{bytes_in}

-- blanks and other characters are passed over, and a last digit with no second is too
pub two_bytes : bytes_in (word "0a: f0 7") ≡ 10 ∷ 240 ∷ []
unfolding bytes_in
two_bytes = refl

pub no_bytes : bytes_in (word "|") ≡ []
unfolding bytes_in
no_bytes = refl
