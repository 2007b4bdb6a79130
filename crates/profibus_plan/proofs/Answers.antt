-- The planner's answer, case by case: 3 exactly for another bus's sheet, 9 exactly if a stream fails at L, at the first such stream, and
-- else the largest TTR with the stream that limits it. Assumes nothing.
use mathlib.Core.Path.{◌≡◌, sym}
use mathlib.Core.List.{List}
use Prim.Native.Nat.{ℕ, ◌+◌, ◌≤◌}
use native.Mathlib.Decide.{ℕ_discrete, dec_le}
use native.Mathlib.Omega.{arith}
use borrow.Author.Tests.{eq-eqb, ne_eqb, le-leb, lt-leb}
use Rattle.common.specs.Checks.{verdict, refusal}
use Rattle.sheet_record.specs.Kinds.{profibus}
use Rattle.sheet_rules.specs.Sheets.{Sheet, bus_in}
use Rattle.sheet_rules.specs.Whole.Outcome.{Read}
use Rattle.profibus_rules.specs.Ring.{ring_of, Declared}
use Rattle.profibus_rules.specs.Target.{AllPass, FirstFails, Limited, target, first_failing}
use Rattle.sheet_rules.proofs.Known.{Known}
use Rattle.profibus_rules.proofs.Rule.{all_pass_below}
use Rattle.profibus_rules.proofs.Declared.{declared}
use Rattle.profibus_rules.proofs.Answer.{named_fails, none_fails, fails_named, none_named, target_limited, limited_is}
use Rattle.profibus_plan.specs.declared.answer.Plan.{Plan}
use Rattle.profibus_plan.specs.Planned.{fails_at_latency, plan_checks, plan_at, plan_by, plan_of, Answers}
use Rattle.profibus_plan.specs.Planned.Answers.{another_bus, fails, limited}
use Rattle.std.specs.declared.result.Result.TheVariants.{Ok, Err}
use Rattle.std.specs.declared.result.Result.{Result}
use Rattle.common.specs.declared.Refusal.{Refusal}

module _ (S : Sheet) where
  pub plan_other_bus : (bus_in S ≡ profibus → ⊥) → plan_of (Read S) ≡ Err (refusal 3 0)
  unfolding plan_of plan_by plan_checks verdict
  plan_other_bus e = rw (ne_eqb (bus_in S) profibus e)

  module _ (bus : bus_in S ≡ profibus) where
    pub plan_fails : (i : ℕ) → FirstFails (ring_of S) (ring_of S).latency i → plan_of (Read S) ≡ Err (refusal 9 i)
    unfolding plan_of plan_by plan_checks fails_at_latency verdict
    plan_fails i f =
        let R = ring_of S in
        rw (eq-eqb (bus_in S) profibus bus, fails_named R R.latency i f, le-leb i R.number f.there.1)

    pub plan_passes : AllPass (ring_of S) (ring_of S).latency
        → plan_of (Read S) ≡ Ok (plan_at (target (ring_of S)) (first_failing (ring_of S) (target (ring_of S) + 1)))
    unfolding plan_of plan_by plan_checks fails_at_latency verdict
    plan_passes p =
        let R = ring_of S in
        rw (eq-eqb (bus_in S) profibus bus, none_named R R.latency p, lt-leb (1 + R.number) R.number (omega arith))

    pub plan_limited : Declared (ring_of S) → (ttr i : ℕ) → Limited (ring_of S) ttr i → plan_of (Read S) ≡ Ok (plan_at ttr i)
    plan_limited within ttr i a =
        let R = ring_of S in
        let e = limited_is R within ttr i a in
        rw (e.0, e.1) (plan_passes (all_pass_below R R.latency ttr a.at_least a.passes))

-- ---- The contract's answer is the page's, and no other is

module _ (s : List ℕ) (S : Sheet) (known : Known s S) where
  pub plan_answers : Answers S (plan_of (Read S))
  plan_answers = by_bus (ℕ_discrete (bus_in S) profibus)
    where
      at_latency : bus_in S ≡ profibus → Dec (first_failing (ring_of S) (ring_of S).latency ≤ (ring_of S).number) → Answers S (plan_of (Read S))
      at_latency bus (yes l) =
          let R = ring_of S in
          let f = named_fails R R.latency l in
          rw (plan_fails S bus (first_failing R R.latency) f) (fails (first_failing R R.latency) bus f)
      at_latency bus (no l) =
          let R = ring_of S in
          let p = none_fails R R.latency (omega (arith, l)) in
          rw (plan_passes S bus p) (limited (target R) (first_failing R (target R + 1)) bus (target_limited R (declared s S known bus) p))

      by_bus : Dec (bus_in S ≡ profibus) → Answers S (plan_of (Read S))
      by_bus (yes bus) = at_latency bus (dec_le (first_failing (ring_of S) (ring_of S).latency) (ring_of S).number)
      by_bus (no e) = rw (plan_other_bus S e) (another_bus e)

  pub answers_plan : {p : Result Plan Refusal} → Answers S p → p ≡ plan_of (Read S)
  answers_plan (another_bus e) = sym (plan_other_bus S e)
  answers_plan (fails i bus f) = sym (plan_fails S bus i f)
  answers_plan (limited ttr i bus a) = sym (plan_limited S bus (declared s S known bus) ttr i a)
