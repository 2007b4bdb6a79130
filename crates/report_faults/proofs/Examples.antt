-- Page 02, 'Ask 1': the last lines of a capture's report as docs/DECISIONS.md prints them. Assumes nothing.
use mathlib.Core.Path.{◌≡◌, refl}
use mathlib.Core.List.{[], ◌∷◌}
use mathlib.Core.Bool.{true, false}
use Prim.Native.Nat.{◌^◌}
use Rattle.common.specs.Sums.{sum, up, first_of}
use Rattle.units.specs.Units.{bp, nanos_up}
use Rattle.text.specs.Text.{word, ◌·◌, places, holds, width_of, decimal, item}
use Rattle.report_phrases.specs.Phrases.{in_bp, in_ns, in_both}
use Rattle.report_faults.specs.Faults.{exceeds, exceeding, first, streams_line, soon_line, ages_lines, silence_line, fault_lines, clean, last_lines}

-- the second stream is the first above
second : last_lines (item (0 ∷ 2 ∷ 1 ∷ [])) (item []) (item (1 ∷ 2 ∷ 1 ∷ [])) 0 0 false 3 ≡ word "answers above the bound in 2 streams, first stream 2\n"
unfolding last_lines clean fault_lines streams_line ages_lines soon_line silence_line exceeding exceeds first sum decimal places width_of holds first_of
second = refl

-- nothing above, and yet not clean: a request left open for ever, requests too soon, nothing heard
each_alone : (last_lines (item []) (item (0 ∷ 0 ∷ 1 ∷ [])) (item (4 ∷ [])) 0 0 false 3 ≡ word "requests open beyond the bound in 1 streams, first stream 3\n")
    × (last_lines (item []) (item []) (item (4 ∷ [])) 4 3 false 3 ≡ word "requests sooner than their spacing allows 4 times, first stream 3\n")
    × (last_lines (item []) (item []) (item []) 0 0 false 3 ≡ word "no answer in the whole capture\n")
unfolding last_lines clean fault_lines streams_line ages_lines soon_line silence_line exceeding exceeds first sum decimal places width_of holds first_of
each_alone = (refl, refl, refl)

-- all at once, in their order; and with records far apart, where ages and gaps are not known, whatever they seem to be
together : (last_lines (item (0 ∷ 1 ∷ [])) (item (1 ∷ 1 ∷ [])) (item []) 2 1 false 2
    ≡ word "answers above the bound in 1 streams, first stream 2\n"
    · word "requests open beyond the bound in 2 streams, first stream 1\n"
    · word "requests sooner than their spacing allows 2 times, first stream 1\n"
    · word "no answer in the whole capture\n")
    × (last_lines (item (0 ∷ 1 ∷ [])) (item (1 ∷ 1 ∷ [])) (item []) 2 1 true 2
    ≡ word "answers above the bound in 1 streams, first stream 2\n"
    · word "records not in order of time, or none for 2147483648 bp 27962026666667 ns or longer: ages and gaps not known\n"
    · word "no answer in the whole capture\n")
unfolding last_lines clean fault_lines streams_line ages_lines soon_line silence_line exceeding exceeds first sum decimal places width_of holds first_of
together = (refl, refl)

-- the time in that line is 2^31 bp in both units
far : last_lines (item []) (item []) (item (1 ∷ [])) 0 0 true 1
    ≡ word "records not in order of time, or none for " · in_both (bp (2 ^ 31)) · word " or longer: ages and gaps not known\n"
unfolding last_lines clean fault_lines streams_line ages_lines silence_line exceeding exceeds sum in_both in_bp in_ns nanos_up up decimal places width_of holds first_of
far = refl
