-- Page 01, 'Sheets worked by hand': the whole report of a sheet, from its bytes alone. Assumes nothing.
use Rattle.std.specs.Prelude.{ℕ, ◌+◌, List, [], ◌++◌, Bool, true, false, cond, eqb, ltb, length, drop}
use Rattle.common.specs.Checks.{Verdict, verdict}
use Rattle.common.specs.Checks.Verdict.{Passed, Refused}
use Rattle.units.specs.Units.{bp, us}
use Rattle.units.specs.declared.Micros.{Micros}
use Rattle.sheet_record.specs.Kinds.{profibus, worldfip, bus_of}
use Rattle.sheet_reader.specs.Walk.{found_of}
use Rattle.sheet_rules.specs.Whole.{Outcome, reading}
use Rattle.sheet_rules.specs.Whole.Outcome.{Read, Not}
use Rattle.pnet_rules.specs.Segment.{Segment, segment_of, count, bound}
use Rattle.pnet_rules.specs.Refined.{refined, rounds}
use Rattle.pnet_plan.specs.Planned.{planned, plan_of as segment_plan}
use Rattle.pnet_plan.specs.declared.answer.Plan.{Plan as SegmentPlan}
use Rattle.profibus_plan.specs.Planned.{plan_of as ring_plan}
use Rattle.profibus_plan.specs.declared.answer.Plan.{Plan as RingPlan}
use Rattle.worldfip_rules.specs.Traffic.{Traffic, microcycle, slots, rows, row_of, identifier_at}
use Rattle.worldfip_figures.specs.Declares.{traffic_of}
use Rattle.worldfip_plan.specs.Answer.{plan_checks, plan_of as table_plan}
use Rattle.worldfip_plan.specs.declared.answer.Plan.{Plan as TablePlan}
use Rattle.report_phrases.specs.declared.Reported.{Reported}
use Rattle.report_phrases.specs.Reports.{told}
use Rattle.text.specs.Text.{word, ◌·◌, texts}
use Rattle.report_phrases.specs.Phrases.{refusal_text}
use Rattle.report_lines.specs.Lines.{master_line, ring_text, row_line, table_head}
use Rattle.std.specs.declared.result.Result.TheVariants.{Ok, Err}
use Rattle.std.specs.declared.result.Result.{Result}
use Rattle.std.specs.declared.option.Option.{Option}
use Rattle.std.specs.declared.option.Option.TheVariants.{Some, None}
use Rattle.common.specs.declared.Refusal.{Refusal}
use Rattle.sheet_reader.specs.declared.Found.{Found}
use Rattle.sheet_reader.specs.declared.Found.TheVariants as found

-- no report is longer
abbrev pub most_text : ℕ
most_text = 1613930

-- ---- P-NET

-- the line of master k; a master without streams has none
unfoldable pub master_of : Segment → ℕ → List ℕ
master_of S k = cond (eqb (count S k) 0) [] (master_line k (bp (bound S k)) (bp (refined S k)) (rounds S k))

-- masters 1..N
unfoldable pub masters_of : Segment → List ℕ
masters_of S = texts (λ i. master_of S (i + 1)) S.masters

-- what planning a P-NET sheet gave: the segment, or the refusal
unfoldable pub segment_report : Outcome → List ℕ
segment_report (Read H) = word "P-NET segment\n" · masters_of (segment_of H)
segment_report (Not n p) = refusal_text n p

unfoldable pub segment_accepts : Result SegmentPlan Refusal → Bool
segment_accepts (Ok x) = true
segment_accepts (Err r) = false

-- ---- PROFIBUS

unfoldable pub ring_report : Result RingPlan Refusal → List ℕ
ring_report (Ok x) = ring_text x.rotation x.stream
ring_report (Err r) = refusal_text r.no r.place

unfoldable pub ring_accepts : Result RingPlan Refusal → Bool
ring_accepts (Ok x) = true
ring_accepts (Err r) = false

-- ---- WorldFIP

unfoldable pub row_at : (ℕ → ℕ) → (ℕ → ℕ) → ℕ → List ℕ
row_at row name m = row_line m (row m) name

-- the lines of a table
unfoldable pub table_text : Micros → ℕ → ℕ → (ℕ → ℕ) → (ℕ → ℕ) → List ℕ
table_text microcycle slots rows row name = table_head microcycle slots rows · texts (row_at row name) rows

-- the table that a sheet asks for, identifiers by rank
unfoldable pub table_of : Traffic → List ℕ
table_of T = table_text (us (microcycle T)) (slots T) (rows T) (row_of T) (identifier_at T)

abbrev pub table_by : Verdict → Traffic → List ℕ
table_by Passed T = table_of T
table_by (Refused n p) T = refusal_text n p

-- a run of 4,096 places holds every table
unfoldable pub table_report : Outcome → List ℕ
table_report (Read S) = table_by (verdict (plan_checks S 4096)) (traffic_of S)
table_report (Not n p) = refusal_text n p

unfoldable pub table_accepts : Result TablePlan Refusal → Bool
table_accepts (Ok x) = true
table_accepts (Err r) = false

-- ---- Any sheet

-- the kind of the record that stands at the first byte; 0 where none does
abbrev pub kind_of : Found → ℕ
kind_of (found.One m) = m.found.kind
kind_of (found.Refused r) = 0
kind_of found.End = 0

-- its bus
unfoldable pub first_bus : List ℕ → ℕ
unfolding found_of bus_of
first_bus s = bus_of (kind_of (found_of s 0))

-- it picks the planner: P-NET's where it is none of the others. Where the record is none that stands first, reading refuses, and every planner
-- reports that alike
unfoldable pub report_of : List ℕ → List ℕ
report_of s =
    cond (eqb (first_bus s) profibus) (ring_report (ring_plan (reading s)))
    (cond (eqb (first_bus s) worldfip) (table_report (reading s)) (segment_report (planned s 32 32 32)))

-- the sheet is accepted: by that planner
unfoldable pub accepts : List ℕ → Bool
accepts s =
    cond (eqb (first_bus s) profibus) (ring_accepts (ring_plan (reading s)))
    (cond (eqb (first_bus s) worldfip) (table_accepts (table_plan (reading s) 4096)) (segment_accepts (segment_plan (planned s 32 32 32))))

-- the answer for a lent run of so many bytes: whether the sheet is accepted, and how many the report takes; or none, without room for every report
unfoldable pub answer_of : List ℕ → ℕ → Option Reported
answer_of s room = cond (ltb room most_text) None (Some (told (accepts s) (length (report_of s))))

-- the lent run then: the report, and behind it what stood there
unfoldable pub run_of : List ℕ → List ℕ → List ℕ
run_of s old = cond (ltb (length old) most_text) old (report_of s ++ drop (length (report_of s)) old)
