-- The same report in the words of the capture's records alone: what page 02's four figures and docs/DECISIONS.md 57 to 64 say of the list of
-- its records, the latest first, with no number of 64 bits in it. Assumes nothing.
use Rattle.std.specs.Prelude.{ℕ, ◌+◌, List, Bool, false, length}
use Rattle.common.specs.Checks.{Verdict}
use Rattle.common.specs.Checks.Verdict.{Passed, Refused}
use Rattle.common.specs.Sums.{when}
use Rattle.sheet_rules.specs.Sheets.{Sheet}
use Rattle.sheet_rules.specs.Whole.{Outcome}
use Rattle.sheet_rules.specs.Whole.Outcome.{Read, Not}
use Rattle.pnet_rules.specs.Segment.{segment_of}
use Rattle.pnet_plan.specs.Planned.{at_place}
use Rattle.pnet_bounds.specs.Bounded.{master_of, spacing_of, jitter_of}
use Rattle.capture_log.specs.declared.Event.{Event}
use Rattle.capture_log.specs.Log.{fresh, left, answered, largest, above}
use Rattle.capture_log.specs.Records.{events, heard}
use Rattle.capture_ages.specs.Ages.{broken, soon, whose, beyond}
use Rattle.report_phrases.specs.Phrases.{refusal_text}
use Rattle.report_faults.specs.Faults.{clean}
use Rattle.report_capture.specs.Shown.{capture_text, capture_refusal}
use Rattle.report_beside.specs.Whole.{laid, limit_of}

-- the stream at index i has answers above its bound, and a request open for longer
unfoldable pub above_at : Bool → Sheet → List Event → ℕ → ℕ
above_at urgent H es i = above fresh (limit_of urgent (segment_of H) (i + 1)) es (i + 1)

unfoldable pub late_at : Bool → Sheet → List Event → ℕ → ℕ
late_at urgent H es i = when (beyond (limit_of urgent (segment_of H) (i + 1)) es (i + 1)) 1

-- of a capture with the records es beside the sheet H
unfoldable pub recorded_text : Bool → Sheet → List Event → List ℕ
recorded_text urgent H es =
    let S = segment_of H in
    capture_text urgent (at_place (master_of S)) (at_place (limit_of urgent S)) (at_place (largest fresh es)) (at_place (answered es)) (above_at urgent H es) (at_place (left fresh es))
    (late_at urgent H es) (soon (spacing_of S) (jitter_of S) es) (whose (spacing_of S) (jitter_of S) es) (broken es) (length H.streams)

unfoldable pub recorded_clean : Bool → Sheet → List Event → Bool
recorded_clean urgent H es =
    let S = segment_of H in
    clean (above_at urgent H es) (late_at urgent H es) (at_place (answered es)) (soon (spacing_of S) (jitter_of S) es) (broken es) (length H.streams)

-- ---- The report

abbrev pub shown_report : Bool → Verdict → Sheet → List Event → List ℕ
shown_report urgent (Refused n p) H es = capture_refusal n p
shown_report urgent Passed H es = recorded_text urgent H es

abbrev pub shown_clean : Bool → Verdict → Sheet → List Event → Bool
shown_clean urgent (Refused n p) H es = false
shown_clean urgent Passed H es = recorded_clean urgent H es

abbrev pub sheet_report : Bool → Outcome → List ℕ → List ℕ
sheet_report urgent (Not n p) c = refusal_text n p
sheet_report urgent (Read H) c = shown_report urgent (heard c (length H.streams) fresh) H (events c)

abbrev pub sheet_clean : Bool → Outcome → List ℕ → Bool
sheet_clean urgent (Not n p) c = false
sheet_clean urgent (Read H) c = shown_clean urgent (heard c (length H.streams) fresh) H (events c)

unfoldable pub recorded_report : Bool → List ℕ → List ℕ → List ℕ
recorded_report urgent s c = sheet_report urgent (laid urgent s) c

unfoldable pub recorded_accepted : Bool → List ℕ → List ℕ → Bool
recorded_accepted urgent s c = sheet_clean urgent (laid urgent s) c
