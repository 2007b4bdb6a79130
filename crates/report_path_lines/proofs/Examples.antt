-- Page 02, 'Ask 4': lines of a path's report, word for word. Assumes nothing.
use mathlib.Core.Path.{◌≡◌, refl}
use Prim.Native.Nat.{◌+◌}
use Rattle.common.specs.Sums.{up, first_of}
use Rattle.units.specs.Units.{bp, nanos_up}
use Rattle.text.specs.Text.{word, places, holds, width_of, decimal}
use Rattle.report_phrases.specs.Phrases.{in_bp, in_ns, in_both, place_text, refused_text}
use Rattle.report_path_lines.specs.Lines.{total_line, sheet_refusal, path_place, path_refusal}

-- two legs of 501 bp are turned into ns once: 6,523,438 ns each would be 13,046,876
legs : total_line (bp (501 + 501)) (bp 1060) ≡ word "total 1002 bp 13046875 ns deadline 1060 bp\n"
unfolding total_line in_both in_bp in_ns nanos_up up decimal places width_of holds first_of
legs = refl

-- a sheet's own
sheets : (sheet_refusal 1 6 2 ≡ word "refused 6 at byte 2 of segment 1\n") × (sheet_refusal 2 8 3 ≡ word "refused 8 at stream 3 of segment 2\n")
    × (sheet_refusal 11 10 0 ≡ word "refused 10 of segment 11\n")
unfolding sheet_refusal refused_text place_text decimal places width_of holds first_of
sheets = (refl, refl, refl)

-- the path's
paths : (path_refusal 17 11 ≡ word "refused 17 at 11 gateways\n") × (path_refusal 4 2 ≡ word "refused 4 at gateway 2\n")
    × (path_refusal 4 0 ≡ word "refused 4 at deadline\n") × (path_refusal 18 3 ≡ word "refused 18 at segment 3\n") × (path_refusal 19 0 ≡ word "refused 19\n")
unfolding path_refusal path_place decimal places width_of holds first_of
paths = (refl, refl, refl, refl, refl)
