-- Page 01, 'Numbered refusals': what the PROFIBUS planner answers to a sheet. Reading's refusals come first, then 3 for another bus's
-- sheet, then 9. Assumes nothing.
use Rattle.std.specs.Prelude.{ℕ, ◌+◌, List, [], ◌∷◌, not, ◌≡◌, eqb, leb}
use Rattle.common.specs.Checks.{Check, check, verdict, refusal, unless}
use Rattle.sheet_record.specs.Kinds.{profibus}
use Rattle.sheet_rules.specs.Sheets.{Sheet, bus_in}
use Rattle.sheet_rules.specs.Whole.{Outcome}
use Rattle.sheet_rules.specs.Whole.Outcome.{Read, Not}
use Rattle.units.specs.Units.{ring_bp}
use Rattle.profibus_rules.specs.Ring.{Ring, ring_of}
use Rattle.profibus_rules.specs.Target.{FirstFails, Limited, target, first_failing}
use Rattle.profibus_plan.specs.declared.answer.Plan.{Plan}
use Rattle.std.specs.declared.result.Result.TheVariants.{Ok, Err}
use Rattle.std.specs.declared.result.Result.{Result}
use Rattle.common.specs.declared.Refusal.{Refusal}

-- 9 for the first stream that fails at L
unfoldable pub fails_at_latency : Ring → Check
unfolding first_failing
fails_at_latency R = check 9 (leb (first_failing R R.latency) R.number) (first_failing R R.latency)

unfoldable pub plan_checks : Sheet → List Check
unfolding fails_at_latency ring_of
plan_checks S = check 3 (not (eqb (bus_in S) profibus)) 0 ∷ fails_at_latency (ring_of S) ∷ []

-- a TTR, and the stream that limits it
abbrev pub plan_at : ℕ → ℕ → Plan
plan_at ttr i = record { rotation = ring_bp ttr; stream = i }

-- the largest TTR and the first stream that fails at TTR + 1
unfoldable pub plan_by : Ring → Plan
unfolding target first_failing
plan_by R = plan_at (target R) (first_failing R (target R + 1))

unfoldable pub plan_of : Outcome → Result Plan Refusal
unfolding plan_by plan_checks verdict ring_of
plan_of (Read S) = unless (verdict (plan_checks S)) (plan_by (ring_of S))
plan_of (Not n p) = Err (refusal n p)

-- ---- The answer as the page says it

-- an answer to a sheet that reads without refusal
pub data Answers (S : Sheet) : Result Plan Refusal → Type 0 where
  another_bus : (bus_in S ≡ profibus → ⊥) → Answers S (Err (refusal 3 0))
  fails : (i : ℕ) → bus_in S ≡ profibus → FirstFails (ring_of S) (ring_of S).latency i → Answers S (Err (refusal 9 i))
  limited : (ttr i : ℕ) → bus_in S ≡ profibus → Limited (ring_of S) ttr i → Answers S (Ok (plan_at ttr i))
