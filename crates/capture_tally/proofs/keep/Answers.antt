-- `capture_tally::keep` meets its contract.
use Rattle.std.proofs.Common.{ℕ, ◌+◌, ◌%◌, ◌^◌, max, ltb, get_or, set, refl, ap, ◌∙◌, eq-eqb, ne_eqb}
use Rattle.common.specs.Sums.{when}
use Rattle.units.specs.declared.BitPeriods.{BitPeriods}
use Rattle.capture_tally.specs.Steps.{spot, left_with, since_with, answers_with, shown_by, largest_with, above_with}
use Rattle.capture_tally.proofs.keep.Goals as goal

pub returns-then-e-eq16 : goal.returns-then-e-eq16
unfolding left_with since_with answers_with largest_with above_with
returns-then-e-eq16 c = let k = eq-eqb _ 16 c.if-e-eq16.true in record { left_after = rw k refl; since_after = rw k refl; answers_after = rw k refl; largest_after = rw k refl; above_after = rw k refl }

pub returns : goal.returns
unfolding left_with since_with answers_with largest_with above_with shown_by
returns c =
    let a = c.args in
    let k = ne_eqb a.e.kind 16 c.if-e-eq16.false in
    let shown = ap (λ (b : BitPeriods). b.0) c.response-shown.ensures in
    record {
      left_after = rw k refl;
      since_after = rw k refl;
      answers_after = rw k refl;
      largest_after = rw k (ap (set a.largest.now (spot a.e)) (c.max.ensures ∙ ap (max (get_or a.largest.now (spot a.e) 0)) shown));
      above_after =
          rw k (ap (set a.above.now (spot a.e))
          (ap (λ (x : ℕ). (get_or a.above.now (spot a.e) 0 + x) % 2 ^ 64) (c.exceeds.ensures ∙ ap (λ (x : ℕ). when (ltb (get_or a.bound.now (spot a.e) 0) x) 1) shown)));
    }
