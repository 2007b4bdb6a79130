-- Page 01, 'Sheets worked by hand': the report's texts as the page prints them. Assumes nothing.
use mathlib.Core.Path.{◌≡◌, refl}
use mathlib.Core.List.{[], ◌∷◌}
use Rattle.common.specs.Sums.{first_of, up}
use Rattle.units.specs.Units.{us, nanos_up}
use Rattle.text.specs.Text.{word, ◌·◌, places, holds, width_of, decimal, item, texts}
use Rattle.report_phrases.specs.Phrases.{in_bp, in_us, in_ns, in_both, two_counts, name_of}
use Rattle.report_lines.specs.Lines.{master_line, master_text, name_text, name_at, row_line, table_head}
use Rattle.report_sheet.specs.Arrays.{master_at, segment_text}
use Rattle.report_sheet.specs.Whole.{row_at, table_text}

-- the third case's whole report, its rounds by the count of page 02, Ask 2; a silent master 3 has no line
segment : segment_text (item (1000 ∷ 500 ∷ 0 ∷ [])) (item (760 ∷ 500 ∷ 0 ∷ [])) (item (1 ∷ 1 ∷ 0 ∷ [])) 3
    ≡ word "P-NET segment\n"
    · word "M01 bound 1000 bp 13020834 ns refined 760 bp 9895834 ns 1 rounds\n"
    · word "M02 bound 500 bp 6510417 ns refined 500 bp 6510417 ns 1 rounds\n"
unfolding segment_text master_at master_text master_line name_of two_counts in_both in_bp in_ns nanos_up up texts decimal places width_of holds first_of
segment = refl

-- rows 3 and 0 of two variables, identifiers 17 and 18
table : table_text (us 1000) 2 2 (item (3 ∷ 0 ∷ [])) (item (17 ∷ 18 ∷ [])) ≡ word "WorldFIP table\nmicrocycle 1000 us 2 slots 2 rows\n" · word "row 0: 17 18\n" · word "row 1:\n"
unfolding table_text table_head row_at row_line name_at name_text in_us texts decimal places width_of holds first_of
table = refl
