-- Page 01, 'Numbered refusals' 1..7, in the page's own words, with page 02, Asks 7, 8 and 10: when a number is given, and at which place. Numbers 1..7 and 20
-- alone come from reading; record i is counted from 0, the first record is record 0. Assumes nothing.
use Rattle.std.specs.Prelude.{ℕ, suc, ◌+◌, ◌≤◌, ◌<◌, ◌≡◌, true, List, length}
use Rattle.sheet_record.specs.declared.Record.{Record}
use Rattle.sheet_record.specs.Kinds.{size_of, decode, bus_of}
use Rattle.sheet_ranges.specs.Ranges.{InPage}
use Rattle.sheet_rules.specs.Sheets.{given, count_of, most_in_all, has_masters}
use Rattle.sheet_rules.specs.Whole.{place_of, before}

-- ---- What is asked of record i of the sheet s

-- the record, as the bytes at its place say it
abbrev pub record_at : List ℕ → ℕ → Record
record_at s i = decode s (place_of s i)

-- the streams before it
abbrev pub streams_before : List ℕ → ℕ → List Record
streams_before s i = (before s i).streams

-- its kind is 1..10
pub record KnownKind (s : List ℕ) (i : ℕ) : Type 0 where
  pub least : 1 ≤ (record_at s i).kind
  pub most : (record_at s i).kind ≤ 10

-- a sheet begins with this kind: 1, 3, 5 or 9
pub data Begins : ℕ → Type 0 where
  pnet_segment : Begins 1
  ring : Begins 3
  exchange : Begins 5
  open_ring : Begins 9

-- a stream of this kind matches the first record of that kind: 2, 4 or 6 behind 1, 3 or 5, 7 where 2 may stand, and 4 behind 9 too
pub data Matches : ℕ → ℕ → Type 0 where
  pnet_stream : Matches 1 2
  pnet_jitter_stream : Matches 1 7
  ring_stream : Matches 3 4
  open_ring_stream : Matches 9 4
  variable : Matches 5 6

-- its kind is right for its position: one that begins a sheet, then 8 behind 1, or 10 behind 9 as long as no stream came, then the streams to match
pub data RightKind (s : List ℕ) : ℕ → Type 0 where
  at_first : Begins (record_at s 0).kind → RightKind s 0
  edition : (record_at s 0).kind ≡ 1 → (record_at s 1).kind ≡ 8 → RightKind s 1
  message : {i : ℕ} → (record_at s 0).kind ≡ 9 → ((j : ℕ) → j ≤ i → (record_at s (suc j)).kind ≡ 10) → RightKind s (suc i)
  behind : {i : ℕ} → Matches (record_at s 0).kind (record_at s (suc i)).kind → RightKind s (suc i)

-- the sheet does not end inside it
pub record Complete (s : List ℕ) (i : ℕ) : Type 0 where
  pub ends : place_of s i + size_of (record_at s i).kind ≤ length s

-- every field is in the range that the page's table has for it, behind the N or n of the first record and its master's M
pub record Ranged (s : List ℕ) (i : ℕ) : Type 0 where
  pub fields : InPage (given (before s i) (record_at s i).a) (record_at s i)

-- master y has a longest message among the records before record i
pub record HasMessage (s : List ℕ) (i y : ℕ) : Type 0 where
  pub j : ℕ
  pub earlier : j < i
  pub message : (record_at s j).kind ≡ 10
  pub its : (record_at s j).a ≡ y

-- a longest message is missing before record i: the ring is of kind 9, and one of its masters 1..n has none
pub record Missing (s : List ℕ) (i : ℕ) : Type 0 where
  pub ring : (record_at s 0).kind ≡ 9
  pub y : ℕ
  pub least : 1 ≤ y
  pub most : y ≤ (record_at s 0).a
  pub none : HasMessage s i y → ⊥

-- the longest messages are wrong at record i: its own is given again, or it is a stream and one is missing
pub data WrongMessages (s : List ℕ) (i : ℕ) : Type 0 where
  again : (record_at s i).kind ≡ 10 → HasMessage s i (record_at s i).a → WrongMessages s i
  missing : (record_at s i).kind ≡ 4 → Missing s i → WrongMessages s i

-- it is not one stream more than a limit allows: 800 in all, 80 for one master, 64 variables
pub record InLimits (s : List ℕ) (i : ℕ) : Type 0 where
  pub in_all : length (streams_before s i) < most_in_all (bus_of (record_at s i).kind)
  pub of_master : has_masters (bus_of (record_at s i).kind) ≡ true → count_of (record_at s i).a (streams_before s i) < 80

-- it is a variable, and an earlier one, record j, has its identifier
pub record MetBefore (s : List ℕ) (i : ℕ) : Type 0 where
  pub variable : (record_at s i).kind ≡ 6
  pub j : ℕ
  pub stream : 1 ≤ j
  pub earlier : j < i
  pub same : (record_at s j).a ≡ (record_at s i).a

-- ---- The table

-- record i is refused with a number: a line for each, in the order 2, 3, 1, 4, 20, 5, 7
pub data RefusedWith (s : List ℕ) (i : ℕ) : ℕ → Type 0 where
  unknown : (KnownKind s i → ⊥) → RefusedWith s i 2
  misplaced : KnownKind s i → (RightKind s i → ⊥) → RefusedWith s i 3
  cut : KnownKind s i → RightKind s i → (Complete s i → ⊥) → RefusedWith s i 1
  out_of_range : KnownKind s i → RightKind s i → Complete s i → (Ranged s i → ⊥) → RefusedWith s i 4
  wrong_messages : KnownKind s i → RightKind s i → Complete s i → Ranged s i → WrongMessages s i → RefusedWith s i 20
  one_too_many : KnownKind s i → RightKind s i → Complete s i → Ranged s i → (WrongMessages s i → ⊥) → (InLimits s i → ⊥) → RefusedWith s i 5
  meets_before : KnownKind s i → RightKind s i → Complete s i → Ranged s i → (WrongMessages s i → ⊥) → InLimits s i → MetBefore s i → RefusedWith s i 7

-- no line applies to record i
pub record Taken (s : List ℕ) (i : ℕ) : Type 0 where
  pub is_known : KnownKind s i
  pub is_right : RightKind s i
  pub is_complete : Complete s i
  pub is_ranged : Ranged s i
  pub right_messages : WrongMessages s i → ⊥
  pub in_limits : InLimits s i
  pub is_new : MetBefore s i → ⊥

-- reading comes to record i: it starts at place p, within the sheet, and all records before it are taken
pub record Reached (s : List ℕ) (i p : ℕ) : Type 0 where
  pub starts : p ≡ place_of s i
  pub inside : p < length s
  pub before : (j : ℕ) → j < i → Taken s j

-- reading comes to the end behind i records, the first among them, and none of them is a stream
pub record NoStream (s : List ℕ) (i : ℕ) : Type 0 where
  pub first : 1 ≤ i
  pub taken : (j : ℕ) → j < i → Taken s j
  pub ends : place_of s i ≡ length s
  pub none : length (streams_before s i) ≡ 0

-- a number and its place are given for a sheet
pub data Given (s : List ℕ) : ℕ → ℕ → Type 0 where
  -- the sheet is empty: place 0
  empty : length s ≡ 0 → Given s 1 0
  -- a record is refused: its first byte
  at_record : {i n p : ℕ} → Reached s i p → RefusedWith s i n → Given s n p
  -- first record, and a longest message is missing at the end: the sheet's length
  no_message : {i : ℕ} → NoStream s i → Missing s i → Given s 20 (length s)
  -- first record and no stream: the sheet's length
  no_stream : {i : ℕ} → NoStream s i → (Missing s i → ⊥) → Given s 6 (length s)
