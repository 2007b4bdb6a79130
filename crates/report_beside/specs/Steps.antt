-- What beginning with a sheet, hearing a piece and reporting answer, and what they leave in lent memory, on any input. Words of contracts
-- alone: what they come to, from the first byte on, is in Kept. Assumes nothing.
use Rattle.std.specs.Prelude.{⊤, ℕ, ◌+◌, ◌^◌, List, Bool, true, false, cond, length}
use Rattle.sheet_rules.specs.Whole.{Outcome}
use Rattle.sheet_rules.specs.Whole.Outcome.{Read, Not}
use Rattle.capture_ages.specs.declared.Watch.{Watch}
use Rattle.capture_ages.specs.Clock.{began}
use Rattle.text.specs.Text.{over}
use Rattle.report_phrases.specs.Phrases.{refusal_text}
use Rattle.report_capture.specs.Shown.{capture_refusal}
use Rattle.report_beside.specs.declared.Hearing.{Hearing}
use Rattle.report_beside.specs.declared.Begun.{Begun}
use Rattle.report_beside.specs.declared.Begun.TheVariants as begun
use Rattle.report_beside.specs.declared.Heard.{Heard}
use Rattle.report_beside.specs.declared.Heard.TheVariants as told
use Rattle.report_beside.specs.declared.Reported.{Reported}
use Rattle.report_beside.specs.declared.Reported.TheVariants as reported
use Rattle.report_beside.specs.Whole.{Tally}
use Rattle.std.specs.declared.result.Result.TheVariants.{Ok, Err}
use Rattle.std.specs.declared.result.Result.{Result}
use Rattle.common.specs.declared.Refusal.{Refusal}

-- a piece that begins at this byte of a capture or behind it is not heard: its places could not be counted
abbrev pub last : ℕ
last = 2 ^ 63

-- ---- Beginning with a sheet

abbrev pub begun_as : Bool → Outcome → Begun
begun_as urgent (Read H) = begun.On (record { urgent = urgent; streams = length H.streams; bytes = 0; watch = began })
begun_as urgent (Not n p) = begun.Refused (length (refusal_text n p))

abbrev pub begun_text : Outcome → List ℕ → List ℕ
begun_text (Read H) old = old
begun_text (Not n p) old = over (refusal_text n p) old

-- ---- Hearing a piece

-- `short` says whether its place is counted, and `answer` how it was taken, with the refusal's place in the piece
abbrev pub heard_as : Bool → Result ⊤ Refusal → Hearing → ℕ → Watch → Heard
heard_as false answer h m w = told.TooLong
heard_as true (Ok tt) h m w = told.On (record { urgent = h.urgent; streams = h.streams; bytes = h.bytes + m; watch = w })
heard_as true (Err r) h m w = told.Refused (length (capture_refusal r.no (h.bytes + r.place)))

abbrev pub heard_text : Bool → Result ⊤ Refusal → ℕ → List ℕ → List ℕ
heard_text false answer d old = old
heard_text true (Ok tt) d old = old
heard_text true (Err r) d old = over (capture_refusal r.no (d + r.place)) old

-- a refused piece changes nothing
abbrev pub heard_tally : Bool → Result ⊤ Refusal → Tally → Tally → Tally
heard_tally false answer new old = old
heard_tally true (Ok tt) new old = new
heard_tally true (Err r) new old = old

-- ---- Reporting

-- a report of n bytes
abbrev pub reported_as : Bool → ℕ → Reported
reported_as clean n = cond clean (reported.Clean n) (reported.Faulty n)
