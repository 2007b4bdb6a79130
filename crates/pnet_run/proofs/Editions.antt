-- Page 02, Ask 10, on two sheets that differ in the edition alone: two masters, the first with one stream of 203 bp, the second silent. Under edition 1
-- R is 260 bp, and some run takes exactly that. Under edition 2 each master is charged 250 bp, the largest H, and R is 500; but the bus is the same:
-- every response is within 260 bp, and no run takes R. So exactness is asked for edition 1 alone. Assumes nothing.
use Prim.Native.Nat.{ℕ, ◌≤◌}
use mathlib.Core.Path.{◌≡◌, refl, sym, ap, ◌∙◌}
use mathlib.Core.Bool.{false}
use mathlib.Core.Logic.{inl}
use mathlib.Core.List.{[], ◌∷◌}
use native.Mathlib.Omega.{arith}
use Rattle.sheet_record.specs.declared.Record.{Record}
use Rattle.sheet_record.specs.Kinds.{is_stream_of, in_range}
use Rattle.sheet_rules.specs.Sheets.{Sheet}
use Rattle.units.specs.Units.{bp}
use Rattle.pnet_rules.specs.Segment.{Segment, stream_of, segment_of, count, hold, bound_by, bound, late}
use Rattle.pnet_rules.specs.Limits.{Ranged, Declared}
use Rattle.pnet_rules.proofs.Declares.{stream_ranged}
use Rattle.pnet_run.specs.Run.{answer}
use Rattle.pnet_run.specs.Promise.{Safe, Reached, Accepted, Even}
use Rattle.pnet_run.proofs.Few.{alone, limits, declared_if_few}
use Rattle.pnet_run.proofs.Demand.{accepted_if_none_is_late, some_run_takes_exactly_the_bound, each_request_is_answered_within_the_bound_of_edition_1}

-- ---- The sheets

-- C is 203, T and D 100,000
abbrev stream : Record
stream = record { kind = 2; a = 1; b = 203; c = 100000; d = 100000; e = 0 }

-- kind 8 is the edition
abbrev sheet : ℕ → Sheet
sheet edition = record {
  head = record { kind = 1; a = 2; b = 0; c = 0; d = 0; e = 0 };
  settings = record { kind = 8; a = edition; b = 0; c = 0; d = 0; e = 0 } ∷ [];
  streams = stream ∷ [];
}

abbrev pub under : ℕ → Segment
under edition = segment_of (sheet edition)

in_range_law : Ranged 2 (stream_of stream)
unfolding is_stream_of in_range
in_range_law = stream_ranged (limits 2) stream refl refl

declared : (edition : ℕ) → Declared (under edition)
unfolding segment_of
declared edition = declared_if_few (under edition) (omega arith) (omega arith) (omega arith) (omega arith) (alone (λ i. Ranged 2 ((under edition).stream i)) in_range_law)

-- ---- Edition 1: some run takes exactly R

r_under_1 : bound (under 1) 1 ≡ 260
unfolding segment_of bound
r_under_1 = refl

even : Even (under 1) 1
unfolding segment_of count
even = record {
  first_edition = refl;
  alike = λ m i j b c. is_203 i b.from_one b.to_last ∙ sym (is_203 j c.from_one c.to_last);
  others = λ y lo hi z. let e : y ≡ 2 = omega (arith, z) in inl (ap (count (under 1)) e);
}
  where
    is_203 : (i : ℕ) → 1 ≤ i → i ≤ 1 → ((under 1).stream i).cycle ≡ 203
    is_203 = alone (λ i. ((under 1).stream i).cycle ≡ 203) refl

pub some_run_takes_260_under_1 : Reached (bp 260) (under 1) 1
unfolding count segment_of
some_run_takes_260_under_1 = rw r_under_1 at (some_run_takes_exactly_the_bound (sheet 1) (declared 1) 1 (omega arith) even)

-- ---- Edition 2: none does

pub r_under_2 : bound (under 2) 1 ≡ 500
unfolding segment_of bound
r_under_2 = refl

pub accepted_under_2 : Accepted (under 2)
unfolding segment_of late
accepted_under_2 = accepted_if_none_is_late (under 2) (declared 2) (alone (λ i. late (under 2) i ≡ false) refl)

-- edition 1's R
sum_of_H : bound_by (hold (under 2)) (under 2) 1 ≡ 260
unfolding segment_of hold bound_by
sum_of_H = refl

pub each_is_within_260_under_2 : Safe (bp 260) (under 2) 1
each_is_within_260_under_2 = record { ever = λ run spaced. rw sum_of_H at (each_request_is_answered_within_the_bound_of_edition_1 (sheet 2) accepted_under_2 1 run spaced) }

pub no_run_takes_R_under_2 : Reached (bp (bound (under 2) 1)) (under 2) 1 → ⊥
no_run_takes_R_under_2 x =
    omega (arith, r_under_2, (each_is_within_260_under_2.ever x.run (x.spaced 1)).in_time (answer x.slow _) x.exact x.own)
