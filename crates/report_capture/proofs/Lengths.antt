-- No report of a capture is longer than `most_capture`, so a run of so many bytes holds every one. Assumes nothing.
use mathlib.Core.Path.{◌≡◌}
use mathlib.Core.List.{List, ◌++◌}
use mathlib.Core.Bool.{Bool, true, false}
use Prim.Native.Nat.{ℕ, ◌+◌, ◌*◌, ◌^◌, ◌≤◌, ◌<◌}
use native.Mathlib.Omega.{arith}
use lib.ListN.{length, length-append}
use Rattle.units.specs.declared.BitPeriods.{BitPeriods}
use Rattle.text.specs.Text.{word, texts}
use Rattle.text.proofs.Lengths.{decimal_most}
use Rattle.text.proofs.Writing.{texts_more}
use Rattle.report_phrases.specs.Phrases.{whose_text, two_counts}
use Rattle.report_phrases.proofs.Lengths.{both_most, two_most, whose_most}
use Rattle.report_faults.specs.Faults.{last_lines}
use Rattle.report_faults.proofs.Lengths.{last_most}
use Rattle.report_capture.specs.Shown.{most_capture, most_line, counts_text, stream_line, stream_at, heading, capture_text}

-- ---- One stream

counts_most : (answers above left : ℕ) → answers < 2 ^ 64 → above < 2 ^ 64 → left < 2 ^ 8 → length (counts_text answers above left) ≤ 66
unfolding counts_text
counts_most answers above left n a l =
    simp length-append
    (omega (
      arith,
      decimal_most 20 answers (omega arith) (omega arith) (omega arith),
      decimal_most 20 above (omega arith) (omega arith) (omega arith),
      decimal_most 3 left (omega arith) (omega arith) (omega arith),
    ))

-- ---- The report

pub line_most : (number master : ℕ) (bound largest : BitPeriods) (answers above left : ℕ) → number ≤ 800 → bound.0 < 2 ^ 32 → largest.0 < 2 ^ 32
    → answers < 2 ^ 64 → above < 2 ^ 64 → left < 2 ^ 8 → length (stream_line number master bound largest answers above left) ≤ most_line
unfolding stream_line
line_most number master bound largest answers above left few b l r a o =
    let whose = whose_text number master in
    let periods = two_counts (word " bound ") bound (word " largest ") largest in
    let counts = counts_text answers above left in
    omega (
      arith,
      length-append whose (periods ++ counts),
      length-append periods counts,
      whose_most number master few,
      two_most 31 (word " bound ") bound (word " largest ") largest (both_most bound b) (both_most largest l),
      counts_most answers above left r a o,
    )

-- one line more
pub lines_more : (t : ℕ → List ℕ) (i : ℕ) → length (texts t i) ≤ i * most_line → length (t i) ≤ most_line → length (texts t (i + 1)) ≤ (i + 1) * most_line
lines_more t i h l = rw texts_more (omega (arith, length-append (texts t i) (t i)))

-- and all
pub lines_all : (t : ℕ → List ℕ) (i n : ℕ) → length (texts t i) ≤ i * most_line → i ≡ n → length (texts t n) ≤ n * most_line
lines_all t i n h e = rw (← e) h

heading_most : (urgent : Bool) → length (heading urgent) ≤ 27
unfolding heading
heading_most true = omega arith
heading_most false = omega arith

-- with the lines of n streams
pub no_capture_longer : (masters bound largest answers above left late : ℕ → ℕ) (soon whose : ℕ) (broken urgent : Bool) (n : ℕ) → soon < 2 ^ 64 → whose < 2 ^ 32
    → n ≤ 800 → length (texts (stream_at masters bound largest answers above left) n) ≤ n * most_line
    → length (capture_text urgent masters bound largest answers above left late soon whose broken n) ≤ most_capture
unfolding capture_text
no_capture_longer masters bound largest answers above left late soon whose broken urgent n s w few h =
    let lines = texts (stream_at masters bound largest answers above left) n in
    omega (
      arith,
      length-append (heading urgent) (lines ++ last_lines above late answers soon whose broken n),
      heading_most urgent,
      length-append lines (last_lines above late answers soon whose broken n),
      last_most n few above late answers soon whose s w broken,
    )
