-- Page 02, 'Ask 4': reports of a path, word for word. Assumes nothing.
use mathlib.Core.Path.{◌≡◌, refl}
use mathlib.Core.Bool.{true, false}
use mathlib.Core.List.{[]}
use Prim.Native.Nat.{◌+◌}
use lib.ListN.{length}
use Rattle.common.specs.Sums.{up, first_of}
use Rattle.units.specs.Units.{bp, nanos_up}
use Rattle.text.specs.Text.{word, ◌·◌, places, holds, width_of, decimal, texts}
use Rattle.report_phrases.specs.Phrases.{in_bp, in_ns, in_both, name_of, place_text, refused_text}
use Rattle.pnet_path.specs.Path.{sender_at}
use Rattle.pnet_path.proofs.Examples.{sheet, path}
use Rattle.report_path_lines.specs.Lines.{segment_line, gateway_line, total_line, sheet_refusal, path_place, path_refusal}
use Rattle.report_path.specs.Report.{path_lines, path_report, path_accepts}
use Rattle.report_path.specs.Told.{most_path, hop_lines, path_text}

-- from the bytes of the sheets: two segments and the gateway between them with the total at the deadline, and above it; twelve segments, and an
-- empty sheet on the second of them
from_bytes : (path_report (path 2 30 (sheet 2) 2 1060)
    ≡ word "P-NET path\n"
    · word "segment 1 M01 bound 500 bp\n"
    · word "gateway 1 request 30 bp reply 30 bp\n"
    · word "segment 2 M02 bound 500 bp\n"
    · word "total 1060 bp 13802084 ns deadline 1060 bp\n")
    × (path_report (path 2 30 (sheet 2) 2 1059) ≡ word "refused 19\n")
    × (path_report (path 12 30 (sheet 2) 2 10000) ≡ word "refused 17 at 11 gateways\n")
    × (path_report (path 12 30 [] 2 10000) ≡ word "refused 1 at byte 0 of segment 2\n")
unfolding path_report sheet sender_at path_lines path_text hop_lines segment_line gateway_line total_line in_both in_bp in_ns nanos_up up name_of texts sheet_refusal refused_text place_text path_refusal path_place decimal places width_of holds first_of
from_bytes = (refl, refl, refl, refl)

-- of these the first is accepted
verdicts : (path_accepts (path 2 30 (sheet 2) 2 1060) ≡ true) × (path_accepts (path 2 30 (sheet 2) 2 1059) ≡ false) × (path_accepts (path 12 30 [] 2 10000) ≡ false)
unfolding path_accepts sheet
verdicts = (refl, refl, refl)

-- eleven segments with every figure as wide as 32 bits allow. `most_path` counts two digits for each hop's number, and 18 of them have one
widest : length (path_text (λ i. 31) (λ i. bp 4294967295) (λ i. bp 4294967295) 10 (bp 4294967295) (bp 4294967295)) + 18 ≡ most_path
unfolding path_text hop_lines segment_line gateway_line total_line in_both in_bp in_ns nanos_up up name_of texts decimal places width_of holds first_of
widest = refl
