-- Page 01, 'P-NET bounds' and 'Numbered refusals': what the P-NET planner answers, and what the three lent runs then hold.
-- Assumes nothing.
use Rattle.std.specs.Prelude.{ℕ, ◌+◌, List, [], ◌∷◌, Bool, not, ◌||◌, length, ltb, leb, eqb}
use Rattle.common.specs.Checks.{Check, check, verdict}
use Rattle.common.specs.Runs.{filled}
use Rattle.common.specs.Sums.{first_of}
use Rattle.sheet_record.specs.Kinds.{pnet}
use Rattle.sheet_rules.specs.Sheets.{Sheet, bus_in, masters_of}
use Rattle.sheet_rules.specs.Whole.{Outcome, or_else, reading}
use Rattle.sheet_rules.specs.Whole.Outcome.{Read, Not}
use Rattle.pnet_rules.specs.Segment.{Segment, segment_of, late}
use Rattle.pnet_plan.specs.declared.answer.Plan.{Plan}
use Rattle.std.specs.declared.result.Result.TheVariants.{Ok, Err}
use Rattle.common.specs.Checks.{refusal}
use Rattle.std.specs.declared.result.Result.{Result}
use Rattle.common.specs.declared.Refusal.{Refusal}

-- the first stream whose R is above its D, and the number past the last where there is none
unfoldable pub first_late : Segment → ℕ
unfolding first_of late
first_late S = first_of (late S) S.number 1

-- behind the reading's own refusals: 3, then 13 where lent room is short of what is needed, then 8
abbrev pub segment_checks : Sheet → Bool → ℕ → List Check
segment_checks H short need =
    check 3 (not (eqb (bus_in H) pnet)) 0
    ∷ check 13 short need
    ∷ check 8 (leb (first_late (segment_of H)) (length H.streams)) (first_late (segment_of H))
    ∷ []

-- for runs of la, lb and lc numbers: each needs N places
unfoldable pub plan_checks : Sheet → ℕ → ℕ → ℕ → List Check
unfolding first_late segment_of
plan_checks H la lb lc = segment_checks H (ltb la (masters_of H) || (ltb lb (masters_of H) || ltb lc (masters_of H))) (masters_of H)

-- a sheet that passes them too, or a refusal's number and place
abbrev pub planned_by : Outcome → ℕ → ℕ → ℕ → Outcome
planned_by (Read H) la lb lc = or_else (verdict (plan_checks H la lb lc)) (Read H)
planned_by (Not n p) la lb lc = Not n p

unfoldable pub planned : List ℕ → ℕ → ℕ → ℕ → Outcome
unfolding reading verdict plan_checks
planned s la lb lc = planned_by (reading s) la lb lc

-- ---- The answer of the code, and the runs

-- the masters and the streams of the sheet, or the refusal
abbrev pub plan_of : Outcome → Result Plan Refusal
plan_of (Read H) = Ok (record { masters = masters_of H; streams = length H.streams })
plan_of (Not n p) = Err (refusal n p)

-- place i of a run is for master i + 1
abbrev pub at_place : (ℕ → ℕ) → ℕ → ℕ
at_place f i = f (i + 1)

-- a lent run: a figure of masters 1..N, later places as they were; on a refusal all of it as it was
abbrev pub run_of : Outcome → (Segment → ℕ → ℕ) → List ℕ → List ℕ
run_of (Read H) figure old = filled (at_place (figure (segment_of H))) (masters_of H) old
run_of (Not n p) figure old = old
