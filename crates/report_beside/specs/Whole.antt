-- Page 02, 'Ask 1' and 'Ask 11', with docs/DECISIONS.md, 'What a capture's bounds rest on': the whole report of a capture beside a P-NET sheet, from the
-- bytes s of the sheet and the bytes c of the capture alone. Runs have 800 places, place i for stream i + 1. `urgent`
-- says by which rule the sheet is planned: urgent requests first, or queues that serve first what came first. Assumes nothing.
use Rattle.std.specs.Prelude.{ℕ, ◌/◌, min, List, Bool, false, cond, length, replicate}
use Rattle.common.specs.Checks.{Verdict}
use Rattle.common.specs.Checks.Verdict.{Passed, Refused}
use Rattle.text.specs.Text.{item}
use Rattle.sheet_rules.specs.Sheets.{Sheet}
use Rattle.sheet_rules.specs.Whole.{Outcome}
use Rattle.sheet_rules.specs.Whole.Outcome.{Read, Not}
use Rattle.pnet_rules.specs.Segment.{Segment}
use Rattle.pnet_bounds.specs.Bounded.{bounded, bound_of, master_of, spacing_of, jitter_of, stream_run}
use Rattle.pnet_urgent_rules.specs.Urgent as Urgent
use Rattle.pnet_urgent_rules.specs.Planned.{urgently}
use Rattle.capture_log.specs.Log.{Before, fresh}
use Rattle.capture_log.specs.Records.{size, heard}
use Rattle.capture_tally.specs.Pieces.{most, before, left_after, since_after, answers_after, largest_after, above_after}
use Rattle.capture_ages.specs.declared.Watch.{Watch}
use Rattle.capture_ages.specs.Clock.{began}
use Rattle.capture_watch.specs.Follow.{Seen, seen, followed, met_in, overdue_run}
use Rattle.report_phrases.specs.Phrases.{refusal_text}
use Rattle.report_faults.specs.Faults.{clean}
use Rattle.report_capture.specs.Shown.{capture_text, capture_refusal}

-- ---- What is kept of a capture

-- for each stream 1 or 0 requests left open, the stamp of the last one, the answers, the largest response, the answers above the bound, the
-- clock at the last request and its lead; the clock itself and what it showed is a Watch beside it
pub record Tally : Type 0 where
  pub left : List ℕ
  pub since : List ℕ
  pub answers : List ℕ
  pub largest : List ℕ
  pub above : List ℕ
  pub asked : List ℕ
  pub lead : List ℕ

abbrev pub tally : List ℕ → List ℕ → List ℕ → List ℕ → List ℕ → List ℕ → List ℕ → Tally
tally left since answers largest above asked lead =
    record { left = left; since = since; answers = answers; largest = largest; above = above; asked = asked; lead = lead }

-- a run with nothing in it
unfoldable pub none : List ℕ
none = replicate most 0

-- before the first record
abbrev pub unheard : Tally
unheard = tally none none none none none none none

-- the clock behind the records of c, for streams with the spacings T and the jitters J
abbrev pub seen_after : List ℕ → List ℕ → List ℕ → Watch → List ℕ → List ℕ → Seen
seen_after c T J w asked lead = followed T J (seen w asked lead) (met_in c (length c / size))

-- the requests that are open
abbrev pub waiting : Tally → Before
waiting k = before k.left k.since

-- behind the same records, for streams with the bounds R
abbrev pub after : List ℕ → List ℕ → List ℕ → List ℕ → Watch → Tally → Tally
after c R T J w k = record {
  left = left_after c (waiting k);
  since = since_after c (waiting k);
  answers = answers_after c k.answers;
  largest = largest_after c (waiting k) k.largest;
  above = above_after c (waiting k) R k.above;
  asked = (seen_after c T J w k.asked k.lead).asked;
  lead = (seen_after c T J w k.asked k.lead).lead;
}

-- ---- What is shown of it

-- 1 for each stream with a request that is open for longer than its bound, else 0
abbrev pub late_of : List ℕ → Watch → Tally → List ℕ
late_of R w k = overdue_run w.clock R k.left k.asked

-- of n streams
unfoldable pub text_of : Bool → ℕ → List ℕ → List ℕ → Watch → Tally → List ℕ
text_of urgent n masters R w k =
    capture_text urgent (item masters) (item R) (item k.largest) (item k.answers) (item k.above) (item k.left) (item (late_of R w k)) w.soon w.whose
    w.broken (min n most)

-- nothing is wrong
unfoldable pub clean_of : ℕ → List ℕ → Watch → Tally → Bool
clean_of n R w k = clean (item k.above) (item (late_of R w k)) (item k.answers) w.soon w.broken (min n most)

-- ---- Sheet and capture

-- with room for 800 streams, the most that a sheet has, 13 is never given
abbrev pub laid : Bool → List ℕ → Outcome
laid urgent s = cond urgent (urgently s most) (bounded s most)

-- a stream's bound: R of its master, or its figure x
abbrev pub limit_of : Bool → Segment → ℕ → ℕ
limit_of urgent = cond urgent Urgent.figure bound_of

-- a figure of each stream of a sheet
abbrev pub figures : Sheet → (Segment → ℕ → ℕ) → List ℕ
figures H figure = stream_run (Read H) figure none

-- what the whole capture leaves
unfoldable pub tally_of : Bool → Sheet → List ℕ → Tally
tally_of urgent H c = after c (figures H (limit_of urgent)) (figures H spacing_of) (figures H jitter_of) began unheard

unfoldable pub watch_of : Sheet → List ℕ → Watch
watch_of H c = (seen_after c (figures H spacing_of) (figures H jitter_of) began none none).watch

-- ---- The report

-- the capture's first refusal, with its place in the capture; or what it shows
abbrev pub heard_report : Bool → Verdict → Sheet → List ℕ → List ℕ
heard_report urgent (Refused n p) H c = capture_refusal n p
heard_report urgent Passed H c = text_of urgent (length H.streams) (figures H master_of) (figures H (limit_of urgent)) (watch_of H c) (tally_of urgent H c)

abbrev pub heard_clean : Bool → Verdict → Sheet → List ℕ → Bool
heard_clean urgent (Refused n p) H c = false
heard_clean urgent Passed H c = clean_of (length H.streams) (figures H (limit_of urgent)) (watch_of H c) (tally_of urgent H c)

-- the sheet's own refusal comes first
abbrev pub laid_report : Bool → Outcome → List ℕ → List ℕ
laid_report urgent (Not n p) c = refusal_text n p
laid_report urgent (Read H) c = heard_report urgent (heard c (length H.streams) fresh) H c

abbrev pub laid_clean : Bool → Outcome → List ℕ → Bool
laid_clean urgent (Not n p) c = false
laid_clean urgent (Read H) c = heard_clean urgent (heard c (length H.streams) fresh) H c

-- the whole text
unfoldable pub beside_report : Bool → List ℕ → List ℕ → List ℕ
beside_report urgent s c = laid_report urgent (laid urgent s) c

-- the call ends as one that is accepted: sheet and capture are not refused, and the capture shows nothing wrong
unfoldable pub beside_clean : Bool → List ℕ → List ℕ → Bool
beside_clean urgent s c = laid_clean urgent (laid urgent s) c
