-- `report_phrases::put_place` stores a refusal's place in words, and what follows it.
use mathlib.Core.Path.{◌≡◌}
use mathlib.Core.List.{List, ◌++◌}
use mathlib.Core.Bool.{true, false, ◌||◌}
use Prim.Native.Nat.{ℕ}
use lib.Dec.{leb, eqb}
use borrow.Author.Tests.{eq-eqb, ne_eqb}
use Rattle.report_phrases.specs.Phrases.{place_text}
use Rattle.text.specs.Text.{word, counted}
use Rattle.report_phrases.proofs.put_place.Goals as goal

-- ---- What the place is, by the number
module _ (n p : ℕ) (after : List ℕ) where
  byte : (leb n 7 || eqb n 20) ≡ true → place_text n p ++ after ≡ counted (word " at byte ") p after
  unfolding place_text counted
  byte a = simp a

  stream : (leb n 7 || eqb n 20) ≡ false → (leb n 9 || eqb n 21) ≡ true → place_text n p ++ after ≡ counted (word " at stream ") p after
  unfolding place_text counted
  stream a b = simp (a, b)

  module _ (a : (leb n 7 || eqb n 20) ≡ false) (b : (leb n 9 || eqb n 21) ≡ false) where
    variable : n ≡ 12 → place_text n p ++ after ≡ counted (word " at variable ") p after
    unfolding place_text counted
    variable e = simp (a, b, eq-eqb n 12 e)

    line : (n ≡ 12 → ⊥) → n ≡ 23 → place_text n p ++ after ≡ counted (word " at line ") p after
    unfolding place_text counted
    line d e = simp (a, b, ne_eqb n 12 d, eq-eqb n 23 e)

    nothing : (n ≡ 12 → ⊥) → (n ≡ 23 → ⊥) → place_text n p ++ after ≡ after
    unfolding place_text
    nothing d e = simp (a, b, ne_eqb n 12 d, ne_eqb n 23 e)

pub returns-then-number : goal.returns-then-number
returns-then-number c = rw (byte _ _ _ c.if-number.true) c.put_counted.ensures

pub returns-then-number-2 : goal.returns-then-number-2
returns-then-number-2 c = let t = c in rw (stream _ _ _ t.if-number.false t.if-number-2.true) c.put_counted-then-number-2.ensures

pub returns-then-number-eq12 : goal.returns-then-number-eq12
returns-then-number-eq12 c =
    let t = c in
    rw (variable _ _ _ t.if-number.false t.if-number-2.false t.if-number-eq12.true) c.put_counted-then-number-eq12.ensures

pub returns-then-number-eq23 : goal.returns-then-number-eq23
returns-then-number-eq23 c =
    let t = c in
    rw (line _ _ _ t.if-number.false t.if-number-2.false t.if-number-eq12.false t.if-number-eq23.true)
    c.put_counted-then-number-eq23.ensures

pub returns : goal.returns
returns c =
    let t = c in
    rw (nothing _ _ _ t.if-number.false t.if-number-2.false t.if-number-eq12.false t.if-number-eq23.false)
    c.put_word.ensures
