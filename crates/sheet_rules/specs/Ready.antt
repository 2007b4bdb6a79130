-- Page 01, 'Sheet records': what the planners go by: the sheet that some bytes are, where its streams stand, and its edition. Words of inner contracts alone.
-- Assumes nothing.
use Rattle.std.specs.Prelude.{ℕ, ◌+◌, ◌≡◌, List, [], cond, length, eqb}
use Rattle.sheet_record.specs.declared.Met.{Met}
use Rattle.sheet_record.specs.Kinds.{met_of}
use Rattle.sheet_rules.specs.Sheets.{Sheet, bus_in, sheet_of}
use Rattle.sheet_rules.specs.Whole.{Outcome, place_of, first_stream, reading}
use Rattle.sheet_rules.specs.Whole.Outcome.{Read, Not}

-- the sheet that was read, and one without records where it was refused
abbrev pub sheet_by : Outcome → Sheet
sheet_by (Read S) = S
sheet_by (Not n p) = sheet_of []

unfoldable pub sheet_in : List ℕ → Sheet
unfolding reading sheet_of
sheet_in s = sheet_by (reading s)

-- where stream i of an accepted sheet stands, counted from 0
unfoldable pub stream_place : List ℕ → ℕ → ℕ
unfolding place_of sheet_in
stream_place s i = place_of s (first_stream (sheet_in s) + i)

-- the edition of a P-NET sheet: its record can stand just behind the first, whose 2 bytes are before it
abbrev pub edition_met : Met → ℕ
edition_met m = cond (eqb m.next 2) 1 m.found.a

unfoldable pub edition_at : List ℕ → ℕ
unfolding met_of
edition_at s = edition_met (met_of s 2 8)

-- these bytes are an accepted sheet of a bus with n streams, and the first of them stands at a place
pub record Ready (s : List ℕ) (bus first n : ℕ) : Type 0 where
  pub reads : reading s ≡ Read (sheet_in s)
  pub on_bus : bus_in (sheet_in s) ≡ bus
  pub number : length (sheet_in s).streams ≡ n
  pub starts : first ≡ stream_place s 0
