-- Page 01, 'Sheets worked by hand', the third case, from its bytes to its whole report; its rounds are by the count of page 02, Ask 2, and
-- ns stand in place of us by Ask 5. Assumes nothing.
use mathlib.Core.Path.{◌≡◌, refl, ap, ◌∙◌}
use mathlib.Core.List.{List, [], ◌∷◌}
use mathlib.Core.Bool.{true}
use Prim.Native.Nat.{ℕ}
use Rattle.common.specs.Checks.{verdict}
use Rattle.common.specs.Sums.{upto, greatest, up, first_of}
use Rattle.sheet_record.specs.Kinds.{kinds, line_of, fields_of, bus_of, part_of, is_setting, is_stream, widths, size_of, known, field_at, decode, limit, within, ranged, in_range}
use Rattle.sheet_record.specs.Numbers.{be}
use Rattle.units.specs.Units.{nanos_up}
use Rattle.sheet_reader.specs.Walk.{byte_checks, found_of}
use Rattle.sheet_rules.specs.Sheets.{head_of, having, sheet_of, fits, of_kind, count_of, most_in_all, has_masters, over_limit, met_before}
use Rattle.sheet_rules.specs.Whole.{place_of, records_of, before, record_checks, end_checks, judge, ended, read_from, reading}
use Rattle.pnet_rules.specs.Segment.{segment_of, stream_at, owns, count, longest, hold, turn_by, bound_by, turn, bound, late}
use Rattle.pnet_rules.specs.Search.{value_from, stands, rounds_from}
use Rattle.pnet_rules.specs.Refined.{saving, right_by, most_rounds, asked_by, right, rounds, refined}
use Rattle.pnet_plan.specs.Planned.{first_late, plan_checks, planned}
use Rattle.text.specs.Text.{word, ◌·◌, places, holds, width_of, decimal, texts}
use Rattle.report_phrases.specs.Phrases.{in_bp, in_ns, in_both, two_counts, name_of}
use Rattle.report_lines.specs.Lines.{master_line}
use Rattle.report_sheet.specs.Whole.{master_of, masters_of, segment_report, first_bus, report_of, accepts}
use Rattle.report_sheet.proofs.Accepted.{says_accepted, first_letter}

-- N = 2; master 1 has two streams, master 2 one; all C = 203, T = D = 100,000
unfoldable pub third : List ℕ
third =
    1 ∷ 2
    ∷ 2 ∷ 1 ∷ 0 ∷ 203 ∷ 0 ∷ 1 ∷ 134 ∷ 160 ∷ 0 ∷ 1 ∷ 134 ∷ 160
    ∷ 2 ∷ 1 ∷ 0 ∷ 203 ∷ 0 ∷ 1 ∷ 134 ∷ 160 ∷ 0 ∷ 1 ∷ 134 ∷ 160
    ∷ 2 ∷ 2 ∷ 0 ∷ 203 ∷ 0 ∷ 1 ∷ 134 ∷ 160 ∷ 0 ∷ 1 ∷ 134 ∷ 160
    ∷ []

pub third_case : report_of third
    ≡ word "P-NET segment\n"
    · word "M01 bound 1000 bp 13020834 ns refined 760 bp 9895834 ns 1 rounds\n"
    · word "M02 bound 500 bp 6510417 ns refined 500 bp 6510417 ns 1 rounds\n"
unfolding third report_of first_bus found_of byte_checks segment_report masters_of master_of texts master_line name_of two_counts in_both in_bp in_ns nanos_up up decimal places width_of holds first_of planned plan_checks verdict first_late late segment_of stream_at owns count longest hold turn_by bound_by turn bound saving right_by value_from stands rounds_from most_rounds asked_by right rounds refined upto greatest reading read_from ended judge record_checks end_checks records_of place_of head_of having sheet_of before fits of_kind count_of most_in_all has_masters over_limit met_before kinds line_of fields_of bus_of part_of is_setting is_stream widths size_of known field_at decode limit within ranged in_range be
third_case = refl

pub third_accepted : accepts third ≡ true
third_accepted = first_letter third ∙ ap says_accepted third_case
