-- `capture_compare::compare_to` meets its contract.
use mathlib.Core.Path.{refl, sym, ◌∙◌}
use Prim.Native.Nat.{◌^◌, ◌<◌}
use lib.ListN.{length}
use native.Mathlib.Omega.{arith}
use Rattle.std.proofs.lemmas.Result.{err_from_is_err_and}
use Rattle.capture_compare.proofs.Told.{handed, whole_refused, whole_passed, left_whole, answers_whole, largest_whole, above_whole}
use Rattle.capture_compare.proofs.compare_to.Goals as goal

pub returns-in_err-take : goal.returns-in_err-take
returns-in_err-take c =
    let a = c.args in
    let p = err_from_is_err_and c.from_residual.result c.from_residual.ensures.1 in
    let r = c.in_err-take.field-0.0 in
    let h = whole_refused a.c.now a.streams c.requires.0 r.no r.place (sym c.take.ensures.0 ∙ c.in_err-take.was) in
    (rw (p.1, p.2, h) refl, rw h refl, rw h refl, rw h refl, rw h refl)

pub returns : goal.returns
returns c =
    let a = c.args in
    let t = c.take.ensures in
    let all = sym t.0 ∙ c.in_ok-take.was in
    let h = whole_passed a.c.now a.streams c.requires.0 all in
    let k = c.hand_over.ensures in
    let l = c.requires.0 in
    let m : length a.c.now < 2 ^ 64 = omega arith in (
      rw h refl,
      handed a.c.now a.streams _ _ _ _ _ _ all h k.answered_after t.3 (λ i x. answers_whole a.c.now i (omega arith) m),
      handed a.c.now a.streams _ _ _ _ _ _ all h k.longest_after t.4 (λ i x. largest_whole a.c.now i (omega arith)),
      handed a.c.now a.streams _ _ _ _ _ _ all h k.exceeding_after t.5 (λ i x. above_whole a.c.now i (omega arith) m a.bound.now),
      handed a.c.now a.streams _ _ _ _ _ _ all h k.waiting_after t.1 (λ i x. left_whole a.c.now i (omega arith)),
    )
