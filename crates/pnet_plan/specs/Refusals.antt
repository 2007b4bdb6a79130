-- Page 01, 'Numbered refusals', for the P-NET planner, in the page's own words: when a number is given, and at which place. s is the
-- sheet, and la, lb and lc are the lengths of the three lent runs. Assumes nothing.
use Rattle.std.specs.Prelude.{ℕ, ◌≤◌, ◌<◌, ◌≡◌, List}
use Rattle.sheet_record.specs.Kinds.{pnet}
use Rattle.sheet_rules.specs.Sheets.{Sheet, bus_in, masters_of}
use Rattle.sheet_rules.specs.Whole.{reading}
use Rattle.sheet_rules.specs.Whole.Outcome.{Read, Not}
use Rattle.pnet_rules.specs.Segment.{Segment, segment_of, bound}
use Rattle.pnet_rules.specs.Bus.{OnBus}

-- stream i passes: its master's R is at most its D
pub record Passes (S : Segment) (i : ℕ) : Type 0 where
  pub in_time : bound S (S.stream i).master ≤ (S.stream i).deadline

-- stream i is the first that fails
pub record FirstFails (S : Segment) (i : ℕ) : Type 0 where
  pub from : 1 ≤ i
  pub to : i ≤ S.number
  pub above : (S.stream i).deadline < bound S (S.stream i).master
  pub before : (j : ℕ) → 1 ≤ j → j < i → Passes S j

-- each run has N places
pub record Room (la lb lc N : ℕ) : Type 0 where
  pub for_bound : N ≤ la
  pub for_refined : N ≤ lb
  pub for_rounds : N ≤ lc

-- a number and its place are given: the reading's own, then 3, 13, 8
pub data Given (s : List ℕ) (la lb lc : ℕ) : ℕ → ℕ → Type 0 where
  -- the sheet is not read
  unread : {n p : ℕ} → reading s ≡ Not n p → Given s la lb lc n p
  -- another bus's sheet: 3 at 0
  another_bus : {H : Sheet} → reading s ≡ Read H → (bus_in H ≡ pnet → ⊥) → Given s la lb lc 3 0
  -- lent room too short: the length needed
  no_room : {H : Sheet} → OnBus s H → (Room la lb lc (masters_of H) → ⊥) → Given s la lb lc 13 (masters_of H)
  -- a bound above a deadline: the first such stream
  too_late : {H : Sheet} {i : ℕ} → OnBus s H → Room la lb lc (masters_of H) → FirstFails (segment_of H) i → Given s la lb lc 8 i

-- none is given
pub record Accepted (s : List ℕ) (la lb lc : ℕ) (H : Sheet) : Type 0 where
  pub on_bus : OnBus s H
  pub room : Room la lb lc (masters_of H)
  pub passes : (i : ℕ) → 1 ≤ i → i ≤ (segment_of H).number → Passes (segment_of H) i
