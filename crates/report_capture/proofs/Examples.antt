-- Page 02, 'Ask 1': the report of a capture as docs/DECISIONS.md prints it. Assumes nothing.
use mathlib.Core.Path.{◌≡◌, refl}
use mathlib.Core.List.{[], ◌∷◌}
use mathlib.Core.Bool.{true, false}
use Rattle.common.specs.Sums.{sum, up, first_of}
use Rattle.units.specs.Units.{bp, nanos_up}
use Rattle.text.specs.Text.{word, ◌·◌, places, holds, width_of, decimal, item, texts}
use Rattle.report_phrases.specs.Phrases.{in_bp, in_ns, in_both, two_counts, name_of, whose_text}
use Rattle.report_faults.specs.Faults.{exceeds, exceeding, first, streams_line, soon_line, ages_lines, silence_line, fault_lines, clean, last_lines}
use Rattle.report_capture.specs.Shown.{counts_text, stream_line, stream_at, heading, capture_text, capture_refusal}

-- ---- Whole reports

-- stream 1 has an answer above its bound, and stream 2 a request left open, not beyond it
above : capture_text false (item (1 ∷ 1 ∷ [])) (item (250 ∷ 250 ∷ [])) (item (251 ∷ 0 ∷ [])) (item (2 ∷ 0 ∷ [])) (item (1 ∷ 0 ∷ [])) (item (0 ∷ 1 ∷ [])) (item (0 ∷ 0 ∷ [])) 0 0 false 2
    ≡ word "P-NET capture\n"
    · word "stream 1 M01 bound 250 bp 3255209 ns largest 251 bp 3268230 ns 2 answers 1 above 0 open\n"
    · word "stream 2 M01 bound 250 bp 3255209 ns largest 0 bp 0 ns 0 answers 0 above 1 open\n"
    · word "answers above the bound in 1 streams, first stream 1\n"
unfolding capture_text heading stream_at stream_line whose_text counts_text last_lines clean fault_lines streams_line ages_lines soon_line silence_line exceeding exceeds first sum two_counts in_both in_bp in_ns nanos_up up name_of texts decimal places width_of holds first_of
above = refl

-- an answer at its bound is within it, and a capture of no streams has no answer
within : (capture_text false (item (3 ∷ [])) (item (250 ∷ [])) (item (250 ∷ [])) (item (7 ∷ [])) (item (0 ∷ [])) (item (0 ∷ [])) (item (0 ∷ [])) 0 0 false 1
    ≡ word "P-NET capture\n" · word "stream 1 M03 bound 250 bp 3255209 ns largest 250 bp 3255209 ns 7 answers 0 above 0 open\n" · word "every answer within its bound\n")
    × (capture_text false (item []) (item []) (item []) (item []) (item []) (item []) (item []) 0 0 false 0 ≡ word "P-NET capture\n" · word "no answer in the whole capture\n")
unfolding capture_text heading stream_at stream_line whose_text counts_text last_lines clean fault_lines streams_line ages_lines soon_line silence_line exceeding exceeds first sum two_counts in_both in_bp in_ns nanos_up up name_of texts decimal places width_of holds first_of
within = (refl, refl)

-- beside the figures of urgent requests first
urgent_first : capture_text true (item (3 ∷ [])) (item (250 ∷ [])) (item (250 ∷ [])) (item (7 ∷ [])) (item (0 ∷ [])) (item (0 ∷ [])) (item (0 ∷ [])) 0 0 false 1
    ≡ word "P-NET capture urgent first\n" · word "stream 1 M03 bound 250 bp 3255209 ns largest 250 bp 3255209 ns 7 answers 0 above 0 open\n" · word "every answer within its bound\n"
unfolding capture_text heading stream_at stream_line whose_text counts_text last_lines clean fault_lines streams_line ages_lines soon_line silence_line exceeding exceeds first sum two_counts in_both in_bp in_ns nanos_up up name_of texts decimal places width_of holds first_of
urgent_first = refl

-- ---- A refusal

refusal : capture_refusal 15 7 ≡ word "refused 15 at capture byte 7\n"
unfolding capture_refusal decimal places width_of holds first_of
refusal = refl
