-- Setting out the masters, one after the other. Assumes nothing.
use mathlib.Core.Path.{◌≡◌, ◌∙◌}
use mathlib.Core.List.{List}
use Prim.Native.Nat.{ℕ, ◌+◌, ◌-◌, ◌≤◌}
use native.Mathlib.Omega.{arith}
use native.Mathlib.Decide.{ℕ_discrete}
use lib.ListN.{length, set, length-set}
use lib.Seq.{get_or-set_same, get_or-set_other}
use Rattle.common.specs.Sums.{upto}
use Rattle.pnet_turn.specs.Turn.{at}
use Rattle.pnet_plan.specs.Arrays.{SetOut}

pub set_out_none : (counts : List ℕ) (h : ℕ → ℕ) (charges ends : List ℕ) → length charges ≡ 33 → length ends ≡ 33 → SetOut counts h 0 charges ends
set_out_none counts h charges ends l e =
    record { charges_long = l; ends_long = e; charges_are = λ y lo hi. absurd (omega arith); ends_are = λ y lo hi. absurd (omega arith) }

-- a store at place n, behind those before it
stored : (F : ℕ → ℕ) (l : List ℕ) (n v : ℕ) → n ≤ 32 → length l ≡ 33 → ((y : ℕ) → 1 ≤ y → y ≤ n - 1 → at l y ≡ F y) → v ≡ F n
    → (y : ℕ) → 1 ≤ y → y ≤ n + 1 - 1 → at (set l n v) y ≡ F y
stored F l n v few long old new y lo hi = split (ℕ_discrete y n)
  where
    split : Dec (y ≡ n) → at (set l n v) y ≡ F y
    split (yes q) = rw q (get_or-set_same l n v 0 (omega arith) ∙ new)
    split (no q) = get_or-set_other l n y v 0 q ∙ old y lo (omega (arith, q))

module _ {counts : List ℕ} {h : ℕ → ℕ} {n : ℕ} {charges ends : List ℕ} (s : SetOut counts h (n - 1) charges ends) where
  pub set_out_next : (c end : ℕ) → n ≤ 32 → c ≡ h n → end ≡ upto (at counts) (n - 1) → SetOut counts h (n + 1 - 1) (set charges n c) (set ends n end)
  set_out_next c end few ec ee =
      record {
        charges_long = length-set charges n c ∙ s.charges_long;
        ends_long = length-set ends n end ∙ s.ends_long;
        charges_are = stored h charges n c few s.charges_long s.charges_are ec;
        ends_are = stored (λ y. upto (at counts) (y - 1)) ends n end few s.ends_long s.ends_are ee;
      }
