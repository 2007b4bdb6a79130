-- When the request of a stream waits at a master. Assumes nothing.
use Prim.Native.Nat.{ℕ}
use mathlib.Core.Path.{◌≡◌, refl}
use mathlib.Core.Bool.{Bool, true, false, ◌&&◌}
use mathlib.Core.Logic.{◌≢◌}
use mathlib.Core.List.{List}
use native.Mathlib.Omega.{arith}
use lib.Dec.{eqb}
use lib.ListN.{get_or, set}
use lib.Seq.{get_or-set_other}
use borrow.Author.Tests.{eq-eqb, ne_eqb, eqb-true}
use Rattle.pnet_simulate.specs.Simulated.{waits}

-- a conjunction that is true
pub both : {a b : Bool} → (a && b) ≡ true → (a ≡ true) × (b ≡ true)
both {a} {b} e = go a refl
  where
    never : false ≡ true → ⊥
    never z = let y : ◌≡◌ {A = ℕ} 0 1 = cc in omega arith

    go : (t : Bool) → a ≡ t → (a ≡ true) × (b ≡ true)
    go true q = (q, rw q at e)
    go false q = absurd (never (rw q at e))

module _ (owner answered : List ℕ) (m p : ℕ) where
  pub waits_at : get_or owner p 0 ≡ m → get_or answered p 0 ≡ 0 → waits owner answered m p ≡ true
  unfolding waits
  waits_at a b = simp (eq-eqb (get_or owner p 0) m a, eq-eqb (get_or answered p 0) 0 b)

  pub waits_elsewhere : get_or owner p 0 ≢ m → waits owner answered m p ≡ false
  unfolding waits
  waits_elsewhere a = simp (ne_eqb (get_or owner p 0) m a)

  pub waits_no_more : get_or owner p 0 ≡ m → get_or answered p 0 ≢ 0 → waits owner answered m p ≡ false
  unfolding waits
  waits_no_more a b = simp (eq-eqb (get_or owner p 0) m a, ne_eqb (get_or answered p 0) 0 b)

  pub waits_then : waits owner answered m p ≡ true → (get_or owner p 0 ≡ m) × (get_or answered p 0 ≡ 0)
  unfolding waits
  waits_then e =
      let w = both {a = eqb (get_or owner p 0) m} e in
      (eqb-true (get_or owner p 0) m w.0, eqb-true (get_or answered p 0) 0 w.1)

  -- a completion at another place changes nothing
  pub waits_other : (q x : ℕ) → p ≢ q → waits owner answered m p ≡ waits owner (set answered q x) m p
  unfolding waits
  waits_other q x z = rw (get_or-set_other answered q p x 0 z)
