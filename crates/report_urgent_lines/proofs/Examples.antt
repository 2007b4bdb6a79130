-- Page 02, 'Ask 11': the report of a sheet whose urgent requests go first, as docs/DECISIONS.md prints it. Assumes nothing.
use mathlib.Core.Path.{◌≡◌, refl}
use mathlib.Core.List.{[], ◌∷◌}
use Prim.Native.Nat.{◌+◌}
use Rattle.common.specs.Sums.{up, first_of}
use Rattle.units.specs.Units.{bp, nanos_up}
use Rattle.text.specs.Text.{word, ◌·◌, places, holds, width_of, decimal, item, texts}
use Rattle.report_phrases.specs.Phrases.{in_bp, in_ns, in_both, two_counts, name_of, whose_text, place_text, refused_text}
use Rattle.report_urgent_lines.specs.Lines.{figure_text, deadline_text, stream_line, stream_at, late_line, late_text, urgent_text}

-- three streams of one master, V being 250: first-come queues refuse the first of them
refused_there : urgent_text (item (1 ∷ 1 ∷ 1 ∷ [])) (item (1 ∷ 2 ∷ 3 ∷ [])) (item (500 ∷ 1000 ∷ 1000 ∷ [])) (item (1 ∷ 2 ∷ 2 ∷ [])) (item (500 ∷ 100000 ∷ 100000 ∷ [])) 1 (bp 750) 3
    ≡ word "P-NET urgent first\n"
    · word "stream 1 M01 place 1 figure 500 bp 6510417 ns 1 rounds deadline 500 bp\n"
    · word "stream 2 M01 place 2 figure 1000 bp 13020834 ns 2 rounds deadline 100000 bp\n"
    · word "stream 3 M01 place 3 figure 1000 bp 13020834 ns 2 rounds deadline 100000 bp\n"
    · word "first come refused 8 at stream 1 bound 750 bp 9765625 ns urgent 500 bp 6510417 ns deadline 500 bp\n"
unfolding urgent_text stream_at stream_line figure_text deadline_text late_text late_line refused_text place_text two_counts in_both in_bp in_ns nanos_up up name_of whose_text texts decimal places width_of holds first_of
refused_there = refl

-- they accept a sheet of one stream, so nothing is said of them
accepted_there : urgent_text (item (3 ∷ [])) (item (1 ∷ [])) (item (250 ∷ [])) (item (0 ∷ [])) (item (250 ∷ [])) 2 (bp 0) 1
    ≡ word "P-NET urgent first\n" · word "stream 1 M03 place 1 figure 250 bp 3255209 ns 0 rounds deadline 250 bp\n"
unfolding urgent_text stream_at stream_line figure_text deadline_text late_text late_line refused_text place_text two_counts in_both in_bp in_ns nanos_up up name_of whose_text texts decimal places width_of holds first_of
accepted_there = refl
