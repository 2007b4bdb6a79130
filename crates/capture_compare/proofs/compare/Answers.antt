-- `capture_compare::compare` meets its contract.
use mathlib.Core.Path.{◌≡◌, refl, sym, ap, ◌∙◌}
use Prim.Native.Nat.{ℕ, ◌+◌, min}
use native.Mathlib.Omega.{arith}
use lib.ListN.{length}
use Rattle.std.proofs.lemmas.Result.{err_from_is_err_and}
use Rattle.capture_log.specs.Log.{fresh, above}
use Rattle.capture_log.specs.Records.{events}
use Rattle.pnet_bounds.specs.Bounded.{bound_of}
use Rattle.capture_compare.specs.Compared.{answered_of, largest_of, above_of, left_of}
use Rattle.capture_compare.proofs.Beside.{accepts, told_refused, compared_refused, plan_compared, run_compared, sheet_run}
use Rattle.capture_compare.proofs.compare.Goals as goal
use Rattle.capture_compare.proofs.compare.Goals.{After-min-room}

-- the shortest of the four runs
room : (c : After-min-room) → c.min-room.result ≡ min (length c.args.answers.now) (min (length c.args.largest.now) (min (length c.args.above.now) (length c.args.left.now)))
room c = omega (arith, c.min-room.ensures, c.min-2.ensures, c.min.ensures)

pub compare_to-requires : goal.compare_to-requires
compare_to-requires c =
    let x = accepts c.args.s.now c.min-room.result c.in_ok-plan.plan.masters c.in_ok-plan.plan.streams (sym c.bounds.ensures.value ∙ c.in_ok-plan.was) in
    let r = room (goal.at.compare_to-requires c).After-min-room in
    (x.few, omega (arith, x.fits, r), omega (arith, x.fits, r), omega (arith, x.fits, r), omega (arith, x.fits, r))

pub returns-in_err-plan : goal.returns-in_err-plan
returns-in_err-plan c =
    let a = c.args in
    let p = err_from_is_err_and c.from_residual.result c.from_residual.ensures.1 in
    let r = c.in_err-plan.field-0.0 in
    let o = told_refused _ r.no r.place (sym c.bounds.ensures.value ∙ c.in_err-plan.was) in
    let z = compared_refused a.s.now a.c.now c.min-room.result _ _ _ _ (room (goal.at.returns-in_err-plan c).After-min-room) r.no r.place o in
    (rw (p.1, p.2, z) refl, rw z refl, rw z refl, rw z refl, rw z refl)

pub returns : goal.returns
unfolding answered_of largest_of above_of left_of
returns c =
    let a = c.args in
    let x = accepts c.args.s.now c.min-room.result c.in_ok-plan.plan.masters c.in_ok-plan.plan.streams (sym c.bounds.ensures.value ∙ c.in_ok-plan.was) in
    let k = c.compare_to.ensures in
    let run = run_compared a.s.now a.c.now c.min-room.result _ _ _ _ (room (goal.at.returns c).After-min-room) x in
    let bound = sheet_run x a.c.now bound_of _ _ c.bounds.ensures.bound_after in (
      k.0 ∙ plan_compared a.s.now a.c.now _ _ _ _ _ (room (goal.at.returns c).After-min-room) x,
      k.1 ∙ run (answered_of a.c.now) _ _ (λ i l. refl),
      k.2 ∙ run (largest_of a.c.now) _ _ (λ i l. refl),
      k.3 ∙ run (above_of a.c.now) _ _ (λ i l. ap (λ (R : ℕ). above fresh R (events a.c.now) (i + 1)) (bound i l)),
      k.4 ∙ run (left_of a.c.now) _ _ (λ i l. refl),
    )
