-- The bytes that a text of hexadecimal digits says: two digits a byte, the high one first. Other characters are passed over, and so is
-- a last digit with no second. Assumes nothing.
use Rattle.std.specs.Prelude.{ℕ, ◌+◌, ◌-◌, ◌*◌, cond, List, [], ◌∷◌, ltb, leb}

-- the value of a digit, `0` to `9` and `a` to `f`, and 16 for any other byte
unfoldable pub value_of : ℕ → ℕ
value_of b = cond (ltb b 48) 16 (cond (leb b 57) (b - 48) (cond (ltb b 97) 16 (cond (leb b 102) (b - 87) 16)))

-- the bytes of a text behind a high digit, 16 for none
unfoldable pub said : ℕ → List ℕ → List ℕ
unfolding value_of
said high [] = []
said high (b ∷ t) =
    cond (ltb (value_of b) 16) (cond (ltb high 16) ((high * 16 + value_of b) ∷ said 16 t) (said (value_of b) t)) (said high t)

unfoldable pub bytes_in : List ℕ → List ℕ
unfolding said
bytes_in t = said 16 t
