-- Sheets worked by hand: page 01's third case, whose figures under the count of page 02, Ask 2, are R 1,000 and 500, W 760 and 500, rounds 1 and 1;
-- and the sheet of that ask, T and D of the second master's stream 1,000 bp: W 1,000 after 2 rounds. With 1,300 bp it is 760, the least of
-- two solutions. Page 02, Ask 7: with J of that stream 2,500 bp and T 3,000 it is 1,000 after 2 rounds, with T 4,000 it is 760 after 1.
-- Ask 10: two sheets under edition 2, and what they say under edition 1. Assumes nothing.
use Prim.Native.Nat.{ℕ}
use mathlib.Core.Path.{◌≡◌, refl}
use mathlib.Core.List.{[], ◌∷◌}
use Rattle.common.specs.Sums.{upto, greatest, up, first_of}
use Rattle.sheet_record.specs.declared.Record.{Record}
use Rattle.pnet_rules.specs.Segment.{Segment, segment_of, stream_at, owns, count, longest, hold, largest, charged, turn_by, bound_by, turn, bound}
use Rattle.pnet_rules.specs.Search.{value_from, stands, rounds_from}
use Rattle.pnet_rules.specs.Refined.{saving, right_by, most_rounds, asked_by, right, rounds, refined}

-- two masters with 203 bp cycles: two streams and one, with these spacings and deadlines
abbrev stream : ℕ → ℕ → Record
stream y T = record { kind = 2; a = y; b = 203; c = T; d = T; e = 0 }

abbrev two : ℕ → Segment
unfolding segment_of
two T = segment_of (record { head = record { kind = 1; a = 2; b = 0; c = 0; d = 0; e = 0 }; settings = []; streams = stream 1 100000 ∷ stream 1 100000 ∷ stream 2 T ∷ [] })

bounds : (bound (two 100000) 1 ≡ 1000) × (bound (two 100000) 2 ≡ 500)
unfolding segment_of stream_at owns count longest hold largest charged turn_by bound_by turn bound upto greatest
bounds = (refl, refl)

refineds : (refined (two 100000) 1 ≡ 760) × (refined (two 100000) 2 ≡ 500) × (rounds (two 100000) 1 ≡ 1) × (rounds (two 100000) 2 ≡ 1)
unfolding segment_of stream_at owns count longest hold largest charged turn_by bound_by turn bound upto greatest up first_of saving right_by value_from stands rounds_from most_rounds asked_by right rounds refined
refineds = (refl, refl, refl, refl)

waits_from_before : (refined (two 1000) 1 ≡ 1000) × (rounds (two 1000) 1 ≡ 2)
unfolding segment_of stream_at owns count longest hold largest charged turn_by bound_by turn bound upto greatest up first_of saving right_by value_from stands rounds_from most_rounds asked_by right rounds refined
waits_from_before = (refl, refl)

-- 760 and 1,000 both solve it
least_of_two : (refined (two 1300) 1 ≡ 760) × (rounds (two 1300) 1 ≡ 1)
unfolding segment_of stream_at owns count longest hold largest charged turn_by bound_by turn bound upto greatest up first_of saving right_by value_from stands rounds_from most_rounds asked_by right rounds refined
least_of_two = (refl, refl)

-- J of the second master's stream is 2,500 bp
abbrev jittery : ℕ → ℕ → Record
jittery T D = record { kind = 7; a = 2; b = 203; c = T; d = D; e = 2500 }

abbrev pair : ℕ → ℕ → Segment
unfolding segment_of
pair T D = segment_of (record { head = record { kind = 1; a = 2; b = 0; c = 0; d = 0; e = 0 }; settings = []; streams = stream 1 100000 ∷ stream 1 100000 ∷ jittery T D ∷ [] })

-- R has no J in it
bounds_with_jitter : (bound (pair 3000 500) 1 ≡ 1000) × (bound (pair 3000 500) 2 ≡ 500)
unfolding segment_of stream_at owns count longest hold largest charged turn_by bound_by turn bound upto greatest
bounds_with_jitter = (refl, refl)

-- 0 + 500 + 2,500 is one spacing, 760 + 500 + 2,500 more than one
refineds_with_jitter :
    (refined (pair 3000 500) 1 ≡ 1000) × (refined (pair 3000 500) 2 ≡ 500) × (rounds (pair 3000 500) 1 ≡ 2) × (rounds (pair 3000 500) 2 ≡ 1)
unfolding segment_of stream_at owns count longest hold largest charged turn_by bound_by turn bound upto greatest up first_of saving right_by value_from stands rounds_from most_rounds asked_by right rounds refined
refineds_with_jitter = (refl, refl, refl, refl)

-- the sum is rounded, not its parts: 760 + 500 + 2,500 is less than 4,000
rounded_once : (refined (pair 4000 1500) 1 ≡ 760) × (rounds (pair 4000 1500) 1 ≡ 1)
unfolding segment_of stream_at owns count longest hold largest charged turn_by bound_by turn bound upto greatest up first_of saving right_by value_from stands rounds_from most_rounds asked_by right rounds refined
rounded_once = (refl, refl)

-- ---- Page 02, Ask 10

-- the record of an edition
abbrev edition : ℕ → Record
edition e = record { kind = 8; a = e; b = 0; c = 0; d = 0; e = 0 }

-- two masters, the second of them silent
abbrev lone : ℕ → Segment
unfolding segment_of
lone e = segment_of (record { head = record { kind = 1; a = 2; b = 0; c = 0; d = 0; e = 0 }; settings = edition e ∷ []; streams = stream 1 100000 ∷ [] })

-- master 2 is charged 250 too, and 240 of them are saved there
charged_alike : (bound (lone 2) 1 ≡ 500) × (bound (lone 2) 2 ≡ 0) × (refined (lone 2) 1 ≡ 260) × (refined (lone 2) 2 ≡ 0) × (rounds (lone 2) 1 ≡ 1) × (rounds (lone 2) 2 ≡ 0)
unfolding segment_of stream_at owns count longest hold largest charged turn_by bound_by turn bound upto greatest up first_of saving right_by value_from stands rounds_from most_rounds asked_by right rounds refined
charged_alike = (refl, refl, refl, refl, refl, refl)

-- under edition 1 it is charged 10, and nothing is saved
charged_apart : (bound (lone 1) 1 ≡ 260) × (refined (lone 1) 1 ≡ 260) × (rounds (lone 1) 1 ≡ 1)
unfolding segment_of stream_at owns count longest hold largest charged turn_by bound_by turn bound upto greatest up first_of saving right_by value_from stands rounds_from most_rounds asked_by right rounds refined
charged_apart = (refl, refl, refl)

-- three masters, the first of them silent; the longest cycle is one of the third's
abbrev three : ℕ → Segment
unfolding segment_of
three e =
    segment_of
    (record {
      head = record { kind = 1; a = 3; b = 0; c = 0; d = 0; e = 0 };
      settings = edition e ∷ [];
      streams = stream 3 3000 ∷ record { kind = 2; a = 2; b = 53; c = 1500; d = 1500; e = 0 } ∷ record { kind = 2; a = 3; b = 3; c = 3000; d = 3000; e = 0 } ∷ [];
    })

three_bounds : (bound (three 2) 1 ≡ 0) × (bound (three 2) 2 ≡ 750) × (bound (three 2) 3 ≡ 1500)
unfolding segment_of stream_at owns count longest hold largest charged turn_by bound_by turn bound upto greatest
three_bounds = (refl, refl, refl)

-- the window of master 2's requests is W and 750: 780 and 750 are more than one spacing, and 780 and the 360 of edition 1 would not be
three_refineds : (refined (three 2) 1 ≡ 0) × (refined (three 2) 2 ≡ 510) × (refined (three 2) 3 ≡ 1020) × (rounds (three 2) 1 ≡ 0) × (rounds (three 2) 2 ≡ 1) × (rounds (three 2) 3 ≡ 2)
unfolding segment_of stream_at owns count longest hold largest charged turn_by bound_by turn bound upto greatest up first_of saving right_by value_from stands rounds_from most_rounds asked_by right rounds refined
three_refineds = (refl, refl, refl, refl, refl, refl)

three_first : (bound (three 1) 2 ≡ 360) × (bound (three 1) 3 ≡ 720)
unfolding segment_of stream_at owns count longest hold largest charged turn_by bound_by turn bound upto greatest
three_first = (refl, refl)
