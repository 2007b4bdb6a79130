-- Page 01, 'Numbered refusals' and 'WorldFIP table': what the planner answers, and what the lent run holds then. Reading's refusals come first, then 3, 10 and 11
-- (worldfip_figures: Figures), then 13, 12. Assumes nothing.
use Rattle.std.specs.Prelude.{ℕ, List, [], ◌∷◌, ◌++◌, length, ltb, leb}
use Rattle.common.specs.Checks.{Check, check, Verdict, verdict}
use Rattle.common.specs.Checks.Verdict.{Passed, Refused}
use Rattle.common.specs.Runs.{filled}
use Rattle.sheet_rules.specs.Sheets.{Sheet}
use Rattle.sheet_rules.specs.Whole.{Outcome}
use Rattle.sheet_rules.specs.Whole.Outcome.{Read, Not}
use Rattle.units.specs.Units.{us}
use Rattle.worldfip_rules.specs.Traffic.{Traffic, microcycle, slots, rows, row_of, miss_of, missing_of}
use Rattle.worldfip_figures.specs.Declares.{traffic_of}
use Rattle.worldfip_figures.specs.Figures.{sheet_checks}
use Rattle.worldfip_plan.specs.declared.answer.Plan.{Plan}
use Rattle.std.specs.declared.result.Result.TheVariants.{Err}
use Rattle.common.specs.Checks.{refusal, unless}
use Rattle.std.specs.declared.result.Result.{Result}
use Rattle.common.specs.declared.Refusal.{Refusal}

-- ---- The refusals, in the page's order, for a lent run of so many places

unfoldable pub row_checks : Traffic → ℕ → List Check
unfolding rows missing_of
row_checks T room =
    check 13 (ltb room (rows T)) (rows T)
    ∷ check 12 (leb (miss_of T) (rows T)) (missing_of T)
    ∷ []

unfoldable pub plan_checks : Sheet → ℕ → List Check
unfolding sheet_checks traffic_of row_checks
plan_checks S room = sheet_checks S ++ row_checks (traffic_of S) room

-- ---- The answer

abbrev pub plan_by : Verdict → Traffic → Result Plan Refusal
plan_by v T = unless v (record { microcycle = us (microcycle T); slots = slots T; rows = rows T })

unfoldable pub plan_of : Outcome → ℕ → Result Plan Refusal
unfolding verdict plan_checks traffic_of microcycle slots rows
plan_of (Read S) room = plan_by (verdict (plan_checks S room)) (traffic_of S)
plan_of (Not n p) room = Err (refusal n p)

-- ---- The lent run: row 0 first, later places as they were; a refusal changes nothing

abbrev pub run_by : Verdict → Traffic → List ℕ → List ℕ
run_by Passed T old = filled (row_of T) (rows T) old
run_by (Refused n p) T old = old

unfoldable pub run_of : Outcome → List ℕ → List ℕ
unfolding verdict plan_checks traffic_of filled rows
run_of (Read S) old = run_by (verdict (plan_checks S (length old))) (traffic_of S) old
run_of (Not n p) old = old
