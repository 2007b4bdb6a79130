-- Page 01, 'Sheet records': how many bytes each field of a kind takes, field by field as the code has them. Assumes nothing.
use Rattle.std.specs.Prelude.{ℕ, zero, suc, ◌≤◌, ◌≡◌, true, List, [], ◌∷◌}
use Rattle.sheet_record.specs.Kinds.{Field, fields_of, known}

-- the width of field j, counted from 0, and 0 past the last
unfoldable pub width_at : List Field → ℕ → ℕ
width_at [] j = 0
width_at (f ∷ fs) zero = f.width
width_at (f ∷ fs) (suc j) = width_at fs j

-- a known kind, and the widths of its fields a, b, c, d and e
pub record Wide (k wa wb wc wd we : ℕ) : Type 0 where
  pub is_known : known k ≡ true
  pub a : wa ≡ width_at (fields_of k) 0
  pub b : wb ≡ width_at (fields_of k) 1
  pub c : wc ≡ width_at (fields_of k) 2
  pub d : wd ≡ width_at (fields_of k) 3
  pub e : we ≡ width_at (fields_of k) 4
  pub a_at_most : wa ≤ 4
  pub b_at_most : wb ≤ 4
  pub c_at_most : wc ≤ 4
  pub d_at_most : wd ≤ 4
  pub e_at_most : we ≤ 4
