-- `report_path_lines::put_path_place` stores the place of a path's refusal in words.
use mathlib.Core.Path.{◌≡◌}
use Prim.Native.Nat.{ℕ}
use borrow.Author.Tests.{eq-eqb, ne_eqb}
use Rattle.text.specs.Text.{word, counted}
use Rattle.report_path_lines.specs.Lines.{path_place}
use Rattle.report_path_lines.proofs.put_path_place.Goals as goal

-- ---- What the place is, by the number
module _ (n p : ℕ) where
  gateways : n ≡ 17 → path_place n p ≡ counted (word " at ") p (word " gateways\n")
  unfolding path_place counted
  gateways e = simp (eq-eqb n 17 e)

  module _ (a : n ≡ 17 → ⊥) where
    segment : n ≡ 18 → path_place n p ≡ counted (word " at segment ") p (word "\n")
    unfolding path_place counted
    segment e = simp (ne_eqb n 17 a, eq-eqb n 18 e)

    module _ (b : n ≡ 18 → ⊥) where
      nothing : (n ≡ 4 → ⊥) → path_place n p ≡ word "\n"
      unfolding path_place
      nothing e = simp (ne_eqb n 17 a, ne_eqb n 18 b, ne_eqb n 4 e)

      deadline : n ≡ 4 → p ≡ 0 → path_place n p ≡ word " at deadline\n"
      unfolding path_place
      deadline e z = simp (ne_eqb n 17 a, ne_eqb n 18 b, eq-eqb n 4 e, eq-eqb p 0 z)

      gateway : n ≡ 4 → (p ≡ 0 → ⊥) → path_place n p ≡ counted (word " at gateway ") p (word "\n")
      unfolding path_place counted
      gateway e z = simp (ne_eqb n 17 a, ne_eqb n 18 b, eq-eqb n 4 e, ne_eqb p 0 z)

pub returns-then-no-eq17 : goal.returns-then-no-eq17
returns-then-no-eq17 c = rw (gateways _ _ c.if-no-eq17.true) c.put_counted.ensures

pub returns-then-no-eq18 : goal.returns-then-no-eq18
returns-then-no-eq18 c = let t = c in rw (segment _ _ t.if-no-eq17.false t.if-no-eq18.true) c.put_counted-then-no-eq18.ensures

pub returns-then-no-ne4 : goal.returns-then-no-ne4
returns-then-no-ne4 c =
    let t = c in
    rw (nothing _ _ t.if-no-eq17.false t.if-no-eq18.false t.if-no-ne4.true) c.put_word.ensures

pub returns-then-place-eq0 : goal.returns-then-place-eq0
returns-then-place-eq0 c =
    let t = c in
    rw (deadline _ _ t.if-no-eq17.false t.if-no-eq18.false t.if-no-ne4.false t.if-place-eq0.true) c.put_word-then-place-eq0.ensures

pub returns : goal.returns
returns c =
    let t = c in
    rw (gateway _ _ t.if-no-eq17.false t.if-no-eq18.false t.if-no-ne4.false t.if-place-eq0.false) c.put_counted-2.ensures
