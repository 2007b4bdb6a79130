-- How a call ends that writes something: as it should, or as one whose report was cut. Assumes nothing.
use mathlib.Core.Path.{◌≡◌}
use mathlib.Core.Bool.{Bool, true, false, cond}
use mathlib.Core.Logic.{◌⊎◌, inl, inr}
use Prim.Native.Nat.{ℕ}

pub one_of_two : (whole : Bool) {status cut r : ℕ} → r ≡ cond whole status cut → r ≡ status ⊎ r ≡ cut
one_of_two true e = inl e
one_of_two false e = inr e
