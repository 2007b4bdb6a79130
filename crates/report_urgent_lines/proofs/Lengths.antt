-- No report of a sheet whose urgent requests go first is longer than `most_urgent`, so a run of so many bytes holds every one. Assumes nothing.
use mathlib.Core.Path.{◌≡◌}
use mathlib.Core.List.{List, [], ◌++◌}
use mathlib.Core.Bool.{true, false}
use Prim.Native.Nat.{ℕ, ◌+◌, ◌-◌, ◌*◌, ◌^◌, ◌≤◌, ◌<◌}
use native.Mathlib.Omega.{arith}
use lib.ListN.{length, length-append}
use Rattle.units.specs.declared.BitPeriods.{BitPeriods}
use Rattle.text.specs.Text.{word, texts}
use Rattle.text.proofs.Lengths.{decimal_most}
use Rattle.text.proofs.Writing.{texts_more}
use Rattle.report_phrases.specs.Phrases.{whose_text, two_counts, place_text, refused_text}
use Rattle.report_phrases.proofs.Lengths.{bp_most, both_most, two_most, whose_most}
use Rattle.report_urgent_lines.specs.Lines.{most_urgent, most_line, figure_text, deadline_text, stream_line, stream_at, late_line, late_text, urgent_text}

-- ---- One stream

figure_most : (place : ℕ) (figure : BitPeriods) (rounds : ℕ) → place < 2 ^ 32 → figure.0 < 2 ^ 32 → rounds < 2 ^ 32 → length (figure_text place figure rounds) ≤ 74
unfolding figure_text
figure_most place figure rounds p x r =
    simp length-append
    (omega (
      arith,
      decimal_most 10 place (omega arith) (omega arith) (omega arith),
      both_most figure x,
      decimal_most 10 rounds (omega arith) (omega arith) (omega arith),
    ))

deadline_most : (deadline : BitPeriods) → deadline.0 < 2 ^ 32 → length (deadline_text deadline) ≤ 24
unfolding deadline_text
deadline_most deadline d = simp length-append (omega (arith, bp_most deadline d))

pub line_most : (number master place : ℕ) (figure : BitPeriods) (rounds : ℕ) (deadline : BitPeriods) → number ≤ 800 → place < 2 ^ 32 → figure.0 < 2 ^ 32 → rounds < 2 ^ 32
    → deadline.0 < 2 ^ 32 → length (stream_line number master place figure rounds deadline) ≤ most_line
unfolding stream_line
line_most number master place figure rounds deadline few p x r d =
    omega (
      arith,
      length-append (whose_text number master) (figure_text place figure rounds ++ deadline_text deadline),
      length-append (figure_text place figure rounds) (deadline_text deadline),
      whose_most number master few,
      figure_most place figure rounds p x r,
      deadline_most deadline d,
    )

-- ---- First-come queues

refused_most : (number : ℕ) → number ≤ 800 → length (refused_text 8 number) ≤ 23
unfolding refused_text place_text
refused_most number few =
    simp length-append
    (omega (arith, decimal_most 1 8 (omega arith) (omega arith) (omega arith), decimal_most 3 number (omega arith) (omega arith) (omega arith)))

pub late_most : (number : ℕ) (bound figure deadline : BitPeriods) → number ≤ 800 → bound.0 < 2 ^ 32 → figure.0 < 2 ^ 32 → deadline.0 < 2 ^ 32
    → length (late_line number bound figure deadline) ≤ 135
unfolding late_line
late_most number bound figure deadline few b x d =
    let counts = two_counts (word " bound ") bound (word " urgent ") figure in
    omega (
      arith,
      length-append (refused_text 8 number) (counts ++ deadline_text deadline),
      length-append counts (deadline_text deadline),
      refused_most number few,
      two_most 31 (word " bound ") bound (word " urgent ") figure (both_most bound b) (both_most figure x),
      deadline_most deadline d,
    )

-- ---- The report

-- one line more
pub lines_more : (t : ℕ → List ℕ) (i : ℕ) → length (texts t i) ≤ i * most_line → length (t i) ≤ most_line → length (texts t (i + 1)) ≤ (i + 1) * most_line
lines_more t i h l = rw texts_more (omega (arith, length-append (texts t i) (t i)))

-- and all
pub lines_all : (t : ℕ → List ℕ) (i n : ℕ) → length (texts t i) ≤ i * most_line → i ≡ n → length (texts t n) ≤ n * most_line
lines_all t i n h e = rw (← e) h

-- the heading, n streams and the last line
pub no_report_longer : (masters places figures rounds deadlines : ℕ → ℕ) (late : ℕ) (bound : BitPeriods) (n : ℕ) → n ≤ 800
    → length (texts (stream_at masters places figures rounds deadlines) n) ≤ n * most_line → length (late_text figures deadlines late bound n) ≤ 135
    → length (urgent_text masters places figures rounds deadlines late bound n) ≤ most_urgent
unfolding urgent_text
no_report_longer masters places figures rounds deadlines late bound n few h l =
    omega (arith, length-append (texts (stream_at masters places figures rounds deadlines) n) (late_text figures deadlines late bound n))
