-- Page 01, 'Sheets worked by hand': the report's lines as the page prints them. Assumes nothing.
use mathlib.Core.Path.{◌≡◌, refl}
use mathlib.Core.List.{[], ◌∷◌}
use Rattle.common.specs.Sums.{first_of, up}
use Rattle.units.specs.Units.{bp, us, ring_bp, nanos_up}
use Rattle.text.specs.Text.{word, places, holds, width_of, decimal, item, texts}
use Rattle.report_phrases.specs.Phrases.{in_bp, in_us, in_ns, in_both, two_counts, name_of}
use Rattle.report_lines.specs.Lines.{master_line, master_text, ring_text, name_text, name_at, row_line, table_head}

-- the third case's first master, its rounds by the count of page 02, Ask 2, and ns by Ask 5; a silent master has no line
masters : (master_text 1 (bp 1000) (bp 760) 1 ≡ word "M01 bound 1000 bp 13020834 ns refined 760 bp 9895834 ns 1 rounds\n") × (master_text 3 (bp 0) (bp 0) 0 ≡ [])
unfolding master_text master_line name_of two_counts in_both in_bp in_ns nanos_up up decimal places width_of holds first_of
masters = (refl, refl)

ring : ring_text (ring_bp 2500) 1 ≡ word "PROFIBUS ring\nTTR 2500 bp limited by stream 1\n"
unfolding ring_text decimal places width_of holds first_of
ring = refl

-- a row of two variables, identifiers 17 and 18, and an empty one
table : (table_head (us 1000) 2 2 ≡ word "WorldFIP table\nmicrocycle 1000 us 2 slots 2 rows\n")
    × (row_line 0 3 (item (17 ∷ 18 ∷ [])) ≡ word "row 0: 17 18\n") × (row_line 1 0 (item (17 ∷ 18 ∷ [])) ≡ word "row 1:\n")
unfolding table_head row_line name_at name_text in_us texts decimal places width_of holds first_of
table = (refl, refl, refl)
