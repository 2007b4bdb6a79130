-- Page 01, 'Numbered refusals': a refusal is given exactly if its condition holds and none before it in the order applies.
-- Assumes nothing.
use mathlib.Core.Path.{◌≡◌, refl}
use mathlib.Core.Bool.{Bool, true, false}
use mathlib.Core.List.{List, [], ◌∷◌}
use Prim.Native.Nat.{ℕ}
use native.Mathlib.Omega.{arith}
use Rattle.common.specs.Checks.{Check, check, verdict}
use Rattle.common.specs.Checks.Verdict.{Passed, Refused}

-- number n with place p applies in this order: its condition holds, and that of no line before it
pub data Applies : List Check → ℕ → ℕ → Type 0 where
  here : {b : Bool} {n p : ℕ} {cs : List Check} → b ≡ true → Applies (check n b p ∷ cs) n p
  later : {c : Check} {n p : ℕ} {cs : List Check} → c.given ≡ false → Applies cs n p → Applies (c ∷ cs) n p

-- no line applies
pub data Clear : List Check → Type 0 where
  none : Clear []
  and : {c : Check} {cs : List Check} → c.given ≡ false → Clear cs → Clear (c ∷ cs)

pub refused_if : {cs : List Check} {n p : ℕ} → Applies cs n p → verdict cs ≡ Refused n p
unfolding verdict
refused_if (here e) = rw e
refused_if (later e a) = rw e (refused_if a)

pub passed_if : {cs : List Check} → Clear cs → verdict cs ≡ Passed
unfolding verdict
passed_if none = refl
passed_if (and e c) = rw e (passed_if c)

pub refused_then : (cs : List Check) (n p : ℕ) → verdict cs ≡ Refused n p → Applies cs n p
unfolding verdict
refused_then [] n p e = let z : ◌≡◌ {A = ℕ} 0 1 = cc in absurd (omega arith)
refused_then (c ∷ cs) n p e = split c.given refl (refused_then cs n p)
  where
    split : (b : Bool) → c.given ≡ b → (verdict cs ≡ Refused n p → Applies cs n p) → Applies (c ∷ cs) n p
    split true q ih =
        let g : Refused c.no c.place ≡ Refused n p = rw q at e in
        let en : c.no ≡ n = cc in
        let ep : c.place ≡ p = cc in
        rw (← en, ← ep) (here q)
    split false q ih = later q (ih (rw q at e))

pub passed_then : (cs : List Check) → verdict cs ≡ Passed → Clear cs
unfolding verdict
passed_then [] e = none
passed_then (c ∷ cs) e = split c.given refl (passed_then cs)
  where
    split : (b : Bool) → c.given ≡ b → (verdict cs ≡ Passed → Clear cs) → Clear (c ∷ cs)
    split true q ih =
        let g : Refused c.no c.place ≡ Passed = rw q at e in
        let z : ◌≡◌ {A = ℕ} 0 1 = cc in
        absurd (omega arith)
    split false q ih = and q (ih (rw q at e))
