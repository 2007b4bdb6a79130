-- Page 02, 'Ask 1', the refusals of a capture laid beside a sheet, in the page's own words: when a number is given, and at which place.
-- s is the sheet, c the capture, and la, lb, lc and ld are the lengths of the four lent runs. Assumes nothing.
use Rattle.std.specs.Prelude.{ℕ, ◌≤◌, ◌≡◌, List, length}
use Rattle.sheet_record.specs.Kinds.{pnet}
use Rattle.sheet_rules.specs.Sheets.{Sheet, bus_in}
use Rattle.sheet_rules.specs.Whole.{reading}
use Rattle.sheet_rules.specs.Whole.Outcome.{Read, Not}
use Rattle.pnet_rules.specs.Segment.{segment_of}
use Rattle.pnet_rules.specs.Bus.{OnBus}
use Rattle.pnet_plan.specs.Refusals.{Passes, FirstFails}
use Rattle.capture_log.specs.Refusals as log

-- each run has a place for each of n streams
pub record Room (la lb lc ld n : ℕ) : Type 0 where
  pub for_answers : n ≤ la
  pub for_largest : n ≤ lb
  pub for_above : n ≤ lc
  pub for_left : n ≤ ld

-- the sheet has bounds that the capture is laid beside: it is P-NET, there is room for its streams, and each passes
pub record Bounded (s : List ℕ) (la lb lc ld : ℕ) (H : Sheet) : Type 0 where
  pub on_bus : OnBus s H
  pub room : Room la lb lc ld (length H.streams)
  pub passes : (i : ℕ) → 1 ≤ i → i ≤ (segment_of H).number → Passes (segment_of H) i

-- a number and its place are given: the sheet's reading ones, 3, 13, 8; then those of the capture
pub data Given (s c : List ℕ) (la lb lc ld : ℕ) : ℕ → ℕ → Type 0 where
  -- the sheet is not read
  unread : {x p : ℕ} → reading s ≡ Not x p → Given s c la lb lc ld x p
  -- it isn't P-NET: 3 at 0
  another_bus : {H : Sheet} → reading s ≡ Read H → (bus_in H ≡ pnet → ⊥) → Given s c la lb lc ld 3 0
  -- lent room too short: the number of streams
  no_room : {H : Sheet} → OnBus s H → (Room la lb lc ld (length H.streams) → ⊥) → Given s c la lb lc ld 13 (length H.streams)
  -- a bound above a deadline: the first such stream
  too_late : {H : Sheet} {i : ℕ} → OnBus s H → Room la lb lc ld (length H.streams) → FirstFails (segment_of H) i → Given s c la lb lc ld 8 i
  -- a record of the capture: its first byte
  in_capture : {H : Sheet} {x p : ℕ} → Bounded s la lb lc ld H → log.Given c (length H.streams) x p → Given s c la lb lc ld x p

-- none is given
pub record Accepted (s c : List ℕ) (la lb lc ld : ℕ) (H : Sheet) : Type 0 where
  pub sheet : Bounded s la lb lc ld H
  pub capture : log.AllTaken c (length H.streams)
