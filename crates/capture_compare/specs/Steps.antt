-- What the parts of a comparison answer once the capture is heard. Words of inner contracts alone. Assumes nothing.
use Rattle.std.specs.Prelude.{ℕ, List}
use Rattle.common.specs.Checks.{Verdict, unless}
use Rattle.common.specs.Checks.Verdict.{Passed, Refused}
use Rattle.common.specs.Runs.{filled}
use Rattle.pnet_plan.specs.declared.answer.Plan.{Plan}
use Rattle.std.specs.declared.result.Result.{Result}
use Rattle.common.specs.declared.Refusal.{Refusal}

-- what the code answers for n masters and m streams, and a lent run, where the capture is heard so
abbrev pub plan_by : Verdict → ℕ → ℕ → Result Plan Refusal
plan_by v n m = unless v (record { masters = n; streams = m })

abbrev pub run_by : Verdict → (ℕ → ℕ) → ℕ → List ℕ → List ℕ
run_by Passed f n old = filled f n old
run_by (Refused r p) f n old = old
