-- Page 02, 'Ask 1', with a time in ns too by 'Ask 5': the last lines of a capture's report, each ended by one newline, which say what is wrong
-- or that nothing is. The page leaves their words open; docs/DECISIONS.md fixes them. Assumes nothing.
use Rattle.std.specs.Prelude.{ℕ, ◌+◌, List, [], Bool, cond, not, ◌&&◌, eqb}
use Rattle.common.specs.Sums.{when, sum, first_of}
use Rattle.text.specs.Text.{word, decimal, ◌·◌}

-- ---- All streams

-- the stream at index i has a figure other than 0 in a run: of answers above its bound, of answers, or 1 for a request open beyond it
unfoldable pub exceeds : (ℕ → ℕ) → ℕ → Bool
exceeds run i = not (eqb (run i) 0)

-- how many of the first n streams have one
unfoldable pub exceeding : (ℕ → ℕ) → ℕ → ℕ
exceeding run n = sum (λ i. when (exceeds run i) 1) n

-- the index of the first that has one
unfoldable pub first : (ℕ → ℕ) → ℕ → ℕ
first run n = first_of (exceeds run) n 0

-- ---- What is wrong, no line where nothing is

-- in how many streams, and in which first
unfoldable pub streams_line : List ℕ → (ℕ → ℕ) → ℕ → List ℕ
streams_line words run n =
    cond (eqb (exceeding run n) 0) []
    (words · decimal (exceeding run n) · word " streams, first stream " · decimal (first run n + 1) · word "\n")

-- how many requests came too soon, and the stream of the first
unfoldable pub soon_line : ℕ → ℕ → List ℕ
soon_line soon whose =
    cond (eqb soon 0) []
    (word "requests sooner than their spacing allows " · decimal soon · word " times, first stream " · decimal whose · word "\n")

-- requests open for too long and requests that came too soon; neither is known where two successive records are 2^31 bp or more apart
unfoldable pub ages_lines : (ℕ → ℕ) → ℕ → ℕ → Bool → ℕ → List ℕ
ages_lines late soon whose broken n =
    cond broken (word "records not in order of time, or none for 2147483648 bp 27962026666667 ns or longer: ages and gaps not known\n")
    (streams_line (word "requests open beyond the bound in ") late n · soon_line soon whose)

-- no stream has an answer
unfoldable pub silence_line : (ℕ → ℕ) → ℕ → List ℕ
silence_line answers n = cond (eqb (exceeding answers n) 0) (word "no answer in the whole capture\n") []

unfoldable pub fault_lines : (ℕ → ℕ) → (ℕ → ℕ) → (ℕ → ℕ) → ℕ → ℕ → Bool → ℕ → List ℕ
fault_lines above late answers soon whose broken n =
    streams_line (word "answers above the bound in ") above n · ages_lines late soon whose broken n · silence_line answers n

-- ---- The verdict

-- nothing is wrong: no answer above its bound, no request open beyond it or too soon, ages and gaps known, and an answer at all
unfoldable pub clean : (ℕ → ℕ) → (ℕ → ℕ) → (ℕ → ℕ) → ℕ → Bool → ℕ → Bool
clean above late answers soon broken n =
    eqb (exceeding above n) 0 && eqb (exceeding late n) 0 && eqb soon 0 && not broken && not (eqb (exceeding answers n) 0)

unfoldable pub last_lines : (ℕ → ℕ) → (ℕ → ℕ) → (ℕ → ℕ) → ℕ → ℕ → Bool → ℕ → List ℕ
last_lines above late answers soon whose broken n =
    cond (clean above late answers soon broken n) (word "every answer within its bound\n") (fault_lines above late answers soon whose broken n)
