-- Page 02, 'Ask 1' and 'Ask 11', with its times in ns too by 'Ask 5': the report of a capture, each line ended by one newline. The page leaves its words
-- open; docs/DECISIONS.md fixes them. Assumes nothing.
use Rattle.std.specs.Prelude.{ℕ, ◌+◌, List, Bool, cond}
use Rattle.units.specs.Units.{bp}
use Rattle.units.specs.declared.BitPeriods.{BitPeriods}
use Rattle.text.specs.Text.{word, decimal, ◌·◌, texts}
use Rattle.report_phrases.specs.Phrases.{whose_text, two_counts}
use Rattle.report_faults.specs.Faults.{last_lines}

-- no capture's report of at most 800 streams is longer
abbrev pub most_capture : ℕ
most_capture = 126673

-- nor the line of one of them
abbrev pub most_line : ℕ
most_line = 158

-- ---- One stream

-- its answers, those of them above the bound, and the requests left open
unfoldable pub counts_text : ℕ → ℕ → ℕ → List ℕ
counts_text answers above left = word " " · decimal answers · word " answers " · decimal above · word " above " · decimal left · word " open\n"

-- behind its number and its master its bound, and the largest response that the capture shows
unfoldable pub stream_line : ℕ → ℕ → BitPeriods → BitPeriods → ℕ → ℕ → ℕ → List ℕ
stream_line number master bound largest answers above left =
    whose_text number master · two_counts (word " bound ") bound (word " largest ") largest · counts_text answers above left

-- the stream at index i of the six runs
unfoldable pub stream_at : (ℕ → ℕ) → (ℕ → ℕ) → (ℕ → ℕ) → (ℕ → ℕ) → (ℕ → ℕ) → (ℕ → ℕ) → ℕ → List ℕ
stream_at masters bound largest answers above left i =
    stream_line (i + 1) (masters i) (bp (bound i)) (bp (largest i)) (answers i) (above i) (left i)

-- ---- The report

-- the rule that the bounds are of
unfoldable pub heading : Bool → List ℕ
heading urgent = cond urgent (word "P-NET capture urgent first\n") (word "P-NET capture\n")

-- of n streams
unfoldable pub capture_text : Bool → (ℕ → ℕ) → (ℕ → ℕ) → (ℕ → ℕ) → (ℕ → ℕ) → (ℕ → ℕ) → (ℕ → ℕ) → (ℕ → ℕ) → ℕ → ℕ → Bool → ℕ → List ℕ
capture_text urgent masters bound largest answers above left late soon whose broken n =
    heading urgent · texts (stream_at masters bound largest answers above left) n · last_lines above late answers soon whose broken n

-- of a capture that is refused with n at byte p
unfoldable pub capture_refusal : ℕ → ℕ → List ℕ
capture_refusal n p = word "refused " · decimal n · word " at capture byte " · decimal p · word "\n"
