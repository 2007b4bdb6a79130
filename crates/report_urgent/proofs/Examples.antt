-- Page 02, 'Ask 11': reports from the bytes of sheets, as docs/DECISIONS.md prints them. Cycles have 203 bp, and there is one master: V is 250 bp. Assumes nothing.
use Prim.Native.Nat.{ℕ}
use mathlib.Core.Path.{◌≡◌, refl}
use mathlib.Core.Bool.{true, false}
use mathlib.Core.List.{List, [], ◌∷◌}
use Rattle.common.specs.Sums.{up, first_of}
use Rattle.units.specs.Units.{nanos_up}
use Rattle.text.specs.Text.{word, ◌·◌, places, holds, width_of, decimal, texts}
use Rattle.pnet_plan.specs.Planned.{first_late}
use Rattle.pnet_bounds.specs.Bounded.{bound_of}
use Rattle.pnet_urgent_rules.specs.Urgent.{rank, figure, rounds}
use Rattle.report_phrases.specs.Phrases.{in_bp, in_ns, in_both, two_counts, name_of, whose_text, place_text, refused_text, refusal_text}
use Rattle.report_urgent_lines.specs.Lines.{figure_text, deadline_text, stream_line, stream_at, late_line, late_text, urgent_text}
use Rattle.report_urgent.specs.Whole.{streams_text, urgent_report, urgent_accepts}

-- three streams, the first with T 600 bp and this D, the others with T and D 100,000 bp
abbrev sheet : ℕ → ℕ → List ℕ
sheet high low =
    1 ∷ 1 ∷ 2 ∷ 1 ∷ 0 ∷ 203 ∷ 0 ∷ 0 ∷ 2 ∷ 88 ∷ 0 ∷ 0 ∷ high ∷ low
    ∷ 2 ∷ 1 ∷ 0 ∷ 203 ∷ 0 ∷ 1 ∷ 134 ∷ 160 ∷ 0 ∷ 1 ∷ 134 ∷ 160
    ∷ 2 ∷ 1 ∷ 0 ∷ 203 ∷ 0 ∷ 1 ∷ 134 ∷ 160 ∷ 0 ∷ 1 ∷ 134 ∷ 160 ∷ []

-- D of 500 bp
accepted : urgent_report (sheet 1 244)
    ≡ word "P-NET urgent first\n"
    · word "stream 1 M01 place 1 figure 500 bp 6510417 ns 1 rounds deadline 500 bp\n"
    · word "stream 2 M01 place 2 figure 1000 bp 13020834 ns 2 rounds deadline 100000 bp\n"
    · word "stream 3 M01 place 3 figure 1000 bp 13020834 ns 2 rounds deadline 100000 bp\n"
    · word "first come refused 8 at stream 1 bound 750 bp 9765625 ns urgent 500 bp 6510417 ns deadline 500 bp\n"
unfolding urgent_report streams_text first_late bound_of rank figure rounds urgent_text stream_at stream_line figure_text deadline_text late_text late_line refused_text place_text two_counts in_both in_bp in_ns nanos_up up name_of whose_text texts decimal places width_of holds first_of
accepted = refl

-- and of 499
refused : urgent_report (sheet 1 243) ≡ word "refused 21 at stream 1\n"
unfolding urgent_report refusal_text refused_text place_text decimal places width_of holds first_of
refused = refl

verdicts : (urgent_accepts (sheet 1 244) ≡ true) × (urgent_accepts (sheet 1 243) ≡ false)
unfolding urgent_accepts
verdicts = (refl, refl)
