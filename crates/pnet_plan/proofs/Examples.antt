-- Page 01, 'Sheets worked by hand', the P-NET cases, from the sheets' bytes: R 2,000 passes D = 2,000 and 1,999 is refused with 8; R, W and
-- rounds of the third case, and of the same with T = D = 1,000 for master 2 (page 02, Ask 2), with a later place kept; and the same with J for
-- master 2 (page 02, Ask 7), as a segment. Assumes nothing.
use Prim.Native.Nat.{ℕ}
use mathlib.Core.Path.{◌≡◌, refl}
use mathlib.Core.Bool.{cond}
use mathlib.Core.List.{List, [], ◌∷◌, ◌++◌}
use lib.Dec.{eqb}
use Rattle.common.specs.Sums.{upto, greatest, up, first_of}
use Rattle.common.specs.Checks.{verdict}
use Rattle.common.specs.Runs.{tab, filled}
use Rattle.sheet_record.specs.Numbers.{be}
use Rattle.sheet_record.specs.Kinds.{kinds, line_of, fields_of, bus_of, part_of, is_setting, is_stream, widths, size_of, known, field_at, decode, limit, within, ranged, in_range}
use Rattle.sheet_rules.specs.Sheets.{head_of, having, sheet_of, fits, of_kind, count_of, most_in_all, has_masters, over_limit, met_before}
use Rattle.sheet_rules.specs.Whole.{place_of, records_of, before, record_checks, end_checks, judge, ended, read_from, reading}
use Rattle.pnet_rules.specs.Segment.{Segment, segment_of, stream_at, owns, count, longest, hold, turn_by, bound_by, turn, bound, late}
use Rattle.pnet_rules.specs.Search.{value_from, stands, rounds_from}
use Rattle.pnet_rules.specs.Refined.{saving, right_by, most_rounds, asked_by, right, rounds, refined}
use Rattle.pnet_plan.specs.Planned.{first_late, plan_checks, planned, plan_of, run_of}
use Rattle.std.specs.declared.result.Result.TheVariants.{Ok, Err}
use Rattle.common.specs.Checks.{refusal}

-- master m, C 203, T 100,000, D by its four bytes
abbrev stream : ℕ → ℕ → ℕ → ℕ → List ℕ
stream m x y z = 2 ∷ m ∷ 0 ∷ 203 ∷ 0 ∷ 1 ∷ 134 ∷ 160 ∷ 0 ∷ x ∷ y ∷ z ∷ []

-- N = 4, two streams each, D 2,000 but of the last one, 1,792 and z
abbrev four : ℕ → List ℕ
four z =
    1 ∷ 4 ∷ (stream 1 0 7 208 ++ stream 1 0 7 208 ++ stream 2 0 7 208 ++ stream 2 0 7 208
    ++ stream 3 0 7 208 ++ stream 3 0 7 208 ++ stream 4 0 7 208 ++ stream 4 0 7 z)

-- N = 2; master 1 two streams, T = D = 100,000, and master 2 one
abbrev two : List ℕ → List ℕ
two last = 1 ∷ 2 ∷ (stream 1 1 134 160 ++ stream 1 1 134 160 ++ last)

-- which has T = D = 100,000, or T = D = 1,000
abbrev seldom : List ℕ
seldom = stream 2 1 134 160

abbrev often : List ℕ
often = 2 ∷ 2 ∷ 0 ∷ 203 ∷ 0 ∷ 0 ∷ 3 ∷ 232 ∷ 0 ∷ 0 ∷ 3 ∷ 232 ∷ []

passes : plan_of (planned (four 208) 4 4 4) ≡ Ok (record { masters = 4; streams = 8 })
unfolding planned plan_checks first_late verdict segment_of stream_at owns count longest hold turn_by bound_by turn bound late upto greatest first_of reading read_from ended judge record_checks end_checks records_of place_of before head_of having sheet_of fits of_kind count_of most_in_all has_masters over_limit met_before kinds line_of fields_of bus_of part_of is_setting is_stream widths size_of known field_at decode limit within ranged in_range be
passes = refl

fails : plan_of (planned (four 207) 4 4 4) ≡ Err (refusal 8 8)
unfolding planned plan_checks first_late verdict segment_of stream_at owns count longest hold turn_by bound_by turn bound late upto greatest first_of reading read_from ended judge record_checks end_checks records_of place_of before head_of having sheet_of fits of_kind count_of most_in_all has_masters over_limit met_before kinds line_of fields_of bus_of part_of is_setting is_stream widths size_of known field_at decode limit within ranged in_range be
fails = refl

figures : (run_of (planned (two seldom) 3 3 3) bound (9 ∷ 9 ∷ 9 ∷ []) ≡ 1000 ∷ 500 ∷ 9 ∷ [])
    × (run_of (planned (two seldom) 3 3 3) refined (9 ∷ 9 ∷ 9 ∷ []) ≡ 760 ∷ 500 ∷ 9 ∷ [])
    × (run_of (planned (two seldom) 3 3 3) rounds (9 ∷ 9 ∷ 9 ∷ []) ≡ 1 ∷ 1 ∷ 9 ∷ [])
unfolding planned plan_checks first_late verdict filled tab segment_of stream_at owns count longest hold turn_by bound_by turn bound late saving right_by value_from stands rounds_from most_rounds asked_by right rounds refined up upto greatest first_of reading read_from ended judge record_checks end_checks records_of place_of before head_of having sheet_of fits of_kind count_of most_in_all has_masters over_limit met_before kinds line_of fields_of bus_of part_of is_setting is_stream widths size_of known field_at decode limit within ranged in_range be
figures = (refl, refl, refl)

-- the count takes in what waits when the window opens
figures_waited : (run_of (planned (two often) 3 3 3) bound (9 ∷ 9 ∷ 9 ∷ []) ≡ 1000 ∷ 500 ∷ 9 ∷ [])
    × (run_of (planned (two often) 3 3 3) refined (9 ∷ 9 ∷ 9 ∷ []) ≡ 1000 ∷ 500 ∷ 9 ∷ [])
    × (run_of (planned (two often) 3 3 3) rounds (9 ∷ 9 ∷ 9 ∷ []) ≡ 2 ∷ 1 ∷ 9 ∷ [])
unfolding planned plan_checks first_late verdict filled tab segment_of stream_at owns count longest hold turn_by bound_by turn bound late saving right_by value_from stands rounds_from most_rounds asked_by right rounds refined up upto greatest first_of reading read_from ended judge record_checks end_checks records_of place_of before head_of having sheet_of fits of_kind count_of most_in_all has_masters over_limit met_before kinds line_of fields_of bus_of part_of is_setting is_stream widths size_of known field_at decode limit within ranged in_range be
figures_waited = (refl, refl, refl)

-- the third case with D = R = 500 and J = x for master 2
abbrev jittered : ℕ → Segment
jittered x =
    record {
      edition = 1;
      masters = 2;
      number = 3;
      stream = λ i. cond (eqb i 3) (record { master = 2; cycle = 203; spacing = 100000; deadline = 500; jitter = x })
          (record { master = 1; cycle = 203; spacing = 100000; deadline = 100000; jitter = 0 });
    }

-- up to J = 98,740 the 760 bp and the 500 that a request may have waited hold one request of master 2
figures_jittered : (first_late (jittered 98740) ≡ 4) × (bound (jittered 98740) 1 ≡ 1000) × (refined (jittered 98740) 1 ≡ 760) × (rounds (jittered 98740) 1 ≡ 1)
unfolding first_late owns count longest hold turn_by bound_by turn bound late saving right_by value_from stands rounds_from most_rounds asked_by right rounds refined up upto greatest first_of
figures_jittered = (refl, refl, refl, refl)

-- one bp more and they hold two
figures_jittered_more : (first_late (jittered 98741) ≡ 4) × (bound (jittered 98741) 1 ≡ 1000) × (refined (jittered 98741) 1 ≡ 1000) × (rounds (jittered 98741) 1 ≡ 2)
unfolding first_late owns count longest hold turn_by bound_by turn bound late saving right_by value_from stands rounds_from most_rounds asked_by right rounds refined up upto greatest first_of
figures_jittered_more = (refl, refl, refl, refl)
