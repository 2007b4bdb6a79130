-- Page 02, 'Ask 4', the refusals of a path in the page's own words: when a number is given, and at which place. Segments are counted from 1,
-- and gateway i lies between segments i and i + 1. Assumes nothing.
use Rattle.std.specs.Prelude.{ℕ, ◌≤◌, ◌<◌, ◌≡◌}
use Rattle.sheet_rules.specs.Sheets.{Sheet}
use Rattle.sheet_rules.specs.Whole.Outcome.{Read, Not}
use Rattle.pnet_rules.specs.Segment.{Segment, segment_of, count}
use Rattle.pnet_crossing.specs.Cost.{cost_over}
use Rattle.pnet_path.specs.Path.{Path, gateways, sheet_at, bound_at, forwarding_at}

-- ---- Words

-- x is in lo..hi
pub record Between (lo x hi : ℕ) : Type 0 where
  pub least : lo ≤ x
  pub most : x ≤ hi

-- each of 1..n is good
abbrev pub Each : (ℕ → Type 0) → ℕ → Type 0
Each Good n = (j : ℕ) → 1 ≤ j → j ≤ n → Good j

-- i is the first of 1..n that is bad: each before it is good
pub record FirstBad (Good Bad : ℕ → Type 0) (n i : ℕ) : Type 0 where
  pub from : 1 ≤ i
  pub to : i ≤ n
  pub before : (j : ℕ) → 1 ≤ j → j < i → Good j
  pub itself : Bad i

-- ---- What is asked of a path

-- the sheet of segment i is accepted
pub record Taken (P : Path) (i : ℕ) : Type 0 where
  pub sheet : Sheet
  pub reads : sheet_at P i ≡ Read sheet

-- it is refused for itself, with this number and place
abbrev pub Untaken : ℕ → ℕ → Path → ℕ → Type 0
Untaken n p P i = sheet_at P i ≡ Not n p

-- there are 1 to 10 gateways
abbrev pub Few : Path → Type 0
Few P = Between 1 (gateways P) 10

-- 'a forwarding time is 0..1,000,000 bp': that of gateway i
abbrev pub Short : Path → ℕ → Type 0
Short P i = forwarding_at P i ≤ 1000000

abbrev pub Long : Path → ℕ → Type 0
Long P i = 1000000 < forwarding_at P i

-- 'D, given with the path, is 1..1,000,000,000 bp'
abbrev pub Dated : Path → Type 0
Dated P = Between 1 P.deadline 1000000000

-- master k is one of a segment's, and has streams
pub record Present (S : Segment) (k : ℕ) : Type 0 where
  pub there : Between 1 k S.masters
  pub streams : 1 ≤ count S k

-- it is absent, or without streams
pub data Absent (S : Segment) (k : ℕ) : Type 0 where
  not_there : (Between 1 k S.masters → ⊥) → Absent S k
  no_streams : count S k ≡ 0 → Absent S k

-- one or the other is so of the sender of segment i, in the segment that the accepted sheet there declares
pub record Sender (What : Segment → ℕ → Type 0) (P : Path) (i : ℕ) : Type 0 where
  pub sheet : Sheet
  pub reads : sheet_at P i ≡ Read sheet
  pub is : What (segment_of sheet) (P.hop i).sender

-- the total: what the path costs
abbrev pub total : Path → ℕ
total P = cost_over (bound_at P) (forwarding_at P) (gateways P)

-- ---- The list

-- every sheet is accepted, every forwarding time is in range, every sender is there with streams
abbrev pub Sheets : Path → Type 0
Sheets P = Each (Taken P) P.segments

abbrev pub Times : Path → Type 0
Times P = Each (Short P) (gateways P)

abbrev pub Senders : Path → Type 0
Senders P = Each (Sender Present P) P.segments

-- a number and its place are given: the line's own condition holds, and that of no line before it
pub data Given (P : Path) : ℕ → ℕ → Type 0 where
  -- 'each sheet's own in path order': that of the first segment whose sheet is refused
  own : {i n p : ℕ} → FirstBad (Taken P) (Untaken n p P) P.segments i → Given P n p
  -- '17 gateways not 1 to 10, place their number (0 for an empty path)'
  not_few : Sheets P → (Few P → ⊥) → Given P 17 (gateways P)
  -- '4 forwarding time out of range, place the gateway from 1'
  too_long : {i : ℕ} → Sheets P → Few P → FirstBad (Short P) (Long P) (gateways P) i → Given P 4 i
  -- 'then D, place 0'
  undated : Sheets P → Few P → Times P → (Dated P → ⊥) → Given P 4 0
  -- '18 master absent or without streams, place the segment from 1'
  no_sender : {i : ℕ} → Sheets P → Few P → Times P → Dated P → FirstBad (Sender Present P) (Sender Absent P) P.segments i → Given P 18 i
  -- '19 total above D, place 0'
  too_late : Sheets P → Few P → Times P → Dated P → Senders P → P.deadline < total P → Given P 19 0

-- none is given, and the path costs c
pub record Accepted (P : Path) (c : ℕ) : Type 0 where
  pub sheets : Sheets P
  pub few : Few P
  pub times : Times P
  pub dated : Dated P
  pub senders : Senders P
  pub cost : c ≡ total P
  pub in_time : c ≤ P.deadline
