-- Page 02, 'Ask 11', with its times in ns too by 'Ask 5': the report of a P-NET sheet whose urgent requests go first, each line ended by one newline. The
-- page leaves its words open; docs/DECISIONS.md fixes them. Assumes nothing.
use Rattle.std.specs.Prelude.{ℕ, ◌+◌, ◌-◌, List, [], cond, leb}
use Rattle.units.specs.Units.{bp}
use Rattle.units.specs.declared.BitPeriods.{BitPeriods}
use Rattle.text.specs.Text.{word, decimal, ◌·◌, texts}
use Rattle.report_phrases.specs.Phrases.{in_bp, in_both, two_counts, whose_text, refused_text}

-- no report of at most 800 streams is longer
abbrev pub most_urgent : ℕ
most_urgent = 89754

-- nor the line of one of them
abbrev pub most_line : ℕ
most_line = 112

-- ---- One stream

-- its place in its master's order, from 1, its figure and the rounds of the search for it
unfoldable pub figure_text : ℕ → BitPeriods → ℕ → List ℕ
figure_text place figure rounds = word " place " · decimal place · word " figure " · in_both figure · word " " · decimal rounds · word " rounds"

-- its deadline, which ends the line
unfoldable pub deadline_text : BitPeriods → List ℕ
deadline_text deadline = word " deadline " · in_bp deadline · word "\n"

unfoldable pub stream_line : ℕ → ℕ → ℕ → BitPeriods → ℕ → BitPeriods → List ℕ
stream_line number master place figure rounds deadline = whose_text number master · figure_text place figure rounds · deadline_text deadline

-- the stream at index i of the five runs
unfoldable pub stream_at : (ℕ → ℕ) → (ℕ → ℕ) → (ℕ → ℕ) → (ℕ → ℕ) → (ℕ → ℕ) → ℕ → List ℕ
stream_at masters places figures rounds deadlines i =
    stream_line (i + 1) (masters i) (places i) (bp (figures i)) (rounds i) (bp (deadlines i))

-- ---- First-come queues

-- a stream that they refuse: its bound there, and its figure here
unfoldable pub late_line : ℕ → BitPeriods → BitPeriods → BitPeriods → List ℕ
late_line number bound figure deadline =
    word "first come " · refused_text 8 number · two_counts (word " bound ") bound (word " urgent ") figure · deadline_text deadline

-- the first of n streams that they refuse, and its bound there; no line where its number is past the last
unfoldable pub late_text : (ℕ → ℕ) → (ℕ → ℕ) → ℕ → BitPeriods → ℕ → List ℕ
late_text figures deadlines late bound n =
    cond (leb late n) (late_line late bound (bp (figures (late - 1))) (bp (deadlines (late - 1)))) []

-- ---- The report

-- of n streams
unfoldable pub urgent_text : (ℕ → ℕ) → (ℕ → ℕ) → (ℕ → ℕ) → (ℕ → ℕ) → (ℕ → ℕ) → ℕ → BitPeriods → ℕ → List ℕ
urgent_text masters places figures rounds deadlines late bound n =
    word "P-NET urgent first\n" · texts (stream_at masters places figures rounds deadlines) n · late_text figures deadlines late bound n
