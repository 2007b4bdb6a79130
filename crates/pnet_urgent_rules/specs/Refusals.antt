-- Page 02, 'Ask 11', refusals in the page's own words: when a number is given, and at which place. s is the sheet, and room the length of the shortest lent run.
-- Assumes nothing.
use Rattle.std.specs.Prelude.{ℕ, ◌+◌, ◌*◌, ◌≤◌, ◌<◌, ◌≡◌, List, length}
use Rattle.sheet_record.specs.Kinds.{pnet}
use Rattle.sheet_rules.specs.Sheets.{Sheet, bus_in}
use Rattle.sheet_rules.specs.Whole.{reading}
use Rattle.sheet_rules.specs.Whole.Outcome.{Read, Not}
use Rattle.pnet_rules.specs.Segment.{Segment, segment_of, turn}
use Rattle.pnet_rules.specs.Bus.{OnBus}
use Rattle.pnet_urgent_rules.specs.Urgent.{blocked, ahead_in}

-- x solves stream i's equation
pub record Solves (S : Segment) (i x : ℕ) : Type 0 where
  pub equal : x ≡ turn S * (1 + blocked S i + ahead_in S i x)

-- 'A stream is accepted exactly if the least solution exists and is at most D'
pub record Met (S : Segment) (i : ℕ) : Type 0 where
  pub x : ℕ
  pub solves : Solves S i x
  pub least : (w : ℕ) → Solves S i w → x ≤ w
  pub in_time : x ≤ (S.stream i).deadline

-- stream i is the first in sheet order that is not accepted
pub record FirstUnmet (S : Segment) (i : ℕ) : Type 0 where
  pub from : 1 ≤ i
  pub to : i ≤ S.number
  pub unmet : Met S i → ⊥
  pub before : (j : ℕ) → 1 ≤ j → j < i → Met S j

-- a number and its place are given: the reading's own, then 3, 13, 21
pub data Given (s : List ℕ) (room : ℕ) : ℕ → ℕ → Type 0 where
  unread : {n p : ℕ} → reading s ≡ Not n p → Given s room n p
  another_bus : {H : Sheet} → reading s ≡ Read H → (bus_in H ≡ pnet → ⊥) → Given s room 3 0
  no_room : {H : Sheet} → OnBus s H → room < length H.streams → Given s room 13 (length H.streams)
  not_met : {H : Sheet} {i : ℕ} → OnBus s H → length H.streams ≤ room → FirstUnmet (segment_of H) i → Given s room 21 i

-- none is given
pub record Accepted (s : List ℕ) (room : ℕ) (H : Sheet) : Type 0 where
  pub on_bus : OnBus s H
  pub enough : length H.streams ≤ room
  pub met : (i : ℕ) → 1 ≤ i → i ≤ (segment_of H).number → Met (segment_of H) i
