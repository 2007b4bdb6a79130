-- Page 02, Ask 8, 'give the same TTR': two sheets of one ring, as the one by kind 3 and the other by kinds 9 and 10, have the same answer. Assumes nothing.
use mathlib.Core.Path.{◌≡◌, ap, ◌∙◌}
use mathlib.Core.Bool.{Bool, not}
use mathlib.Core.List.{[], ◌∷◌}
use Prim.Native.Nat.{ℕ, ◌+◌}
use lib.Dec.{eqb, leb}
use Rattle.common.specs.Checks.{Check, check, verdict, unless}
use Rattle.common.specs.declared.Refusal.{Refusal}
use Rattle.sheet_record.specs.Kinds.{profibus}
use Rattle.sheet_rules.specs.Sheets.{Sheet, bus_in}
use Rattle.sheet_rules.specs.Whole.Outcome.{Read}
use Rattle.profibus_rules.specs.Ring.{Ring, ring_of, SameRings}
use Rattle.profibus_rules.specs.Target.{target, first_failing}
use Rattle.profibus_rules.proofs.Same.{same_target, same_first}
use Rattle.profibus_plan.specs.Planned.{fails_at_latency, plan_checks, plan_at, plan_by, plan_of}
use Rattle.profibus_plan.specs.declared.answer.Plan.{Plan}
use Rattle.std.specs.declared.result.Result.{Result}

module _ {R R' : Ring} (same : SameRings R R') where
  same_at_latency : first_failing R' R'.latency ≡ first_failing R R.latency
  same_at_latency = ap (first_failing R') same.latency ∙ same_first same R.latency

  same_check : fails_at_latency R' ≡ fails_at_latency R
  unfolding fails_at_latency
  same_check =
      ap (λ (n : ℕ). check 9 (leb (first_failing R' R'.latency) n) (first_failing R' R'.latency)) same.number
      ∙ ap (λ (i : ℕ). check 9 (leb i R.number) i) same_at_latency

  same_by : plan_by R' ≡ plan_by R
  unfolding plan_by
  same_by = ap (λ (t : ℕ). plan_at t (first_failing R' (t + 1))) (same_target same) ∙ ap (plan_at (target R)) (same_first same (target R + 1))

pub same_plan : (S S' : Sheet) → bus_in S' ≡ bus_in S → SameRings (ring_of S) (ring_of S') → plan_of (Read S') ≡ plan_of (Read S)
unfolding plan_of plan_checks
same_plan S S' bus same =
    let by : Bool → Check → Plan → Result Plan Refusal = λ ring f p. unless (verdict (check 3 (not ring) 0 ∷ f ∷ [])) p in
    ap (λ (b : ℕ). by (eqb b profibus) (fails_at_latency (ring_of S')) (plan_by (ring_of S'))) bus
    ∙ (ap (λ (f : Check). by (eqb (bus_in S) profibus) f (plan_by (ring_of S'))) (same_check same)
    ∙ ap (by (eqb (bus_in S) profibus) (fails_at_latency (ring_of S))) (same_by same))
