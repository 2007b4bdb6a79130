-- Page 02, 'Ask 1', the refusals of a capture in the page's own words: when a number is given, and at which place. c is the capture and
-- n the number of streams on the sheet; record j is counted from 0, the first record is record 0. Assumes nothing.
use Rattle.std.specs.Prelude.{◌≡◌, ℕ, ◌+◌, ◌*◌, ◌<◌, ◌≤◌, ◌⊎◌, List, length, ◌≢◌}
use Rattle.capture_log.specs.declared.Event.{Event}
use Rattle.capture_log.specs.Records.{size, event_at}

-- ---- What is asked of record j

-- the record, as the bytes at its place say it
abbrev pub record_at : List ℕ → ℕ → Event
record_at c j = event_at c (size * j)

-- its kind is 16 or 17
pub record KnownKind (c : List ℕ) (j : ℕ) : Type 0 where
  pub either : (record_at c j).kind ≡ 16 ⊎ (record_at c j).kind ≡ 17

-- the capture does not end inside it
pub record Whole (c : List ℕ) (j : ℕ) : Type 0 where
  pub ends : size * j + size ≤ length c

-- its stream is on the sheet
pub record OnSheet (c : List ℕ) (n j : ℕ) : Type 0 where
  pub from : 1 ≤ (record_at c j).stream
  pub to : (record_at c j).stream ≤ n

-- a request of stream i is open behind the first j records: record k is that request, and no record between is its answer
pub record Open (c : List ℕ) (j i : ℕ) : Type 0 where
  pub k : ℕ
  pub before : k < j
  pub asks : (record_at c k).kind ≡ 16
  pub own : (record_at c k).stream ≡ i
  pub unanswered : (m : ℕ) → k < m → m < j → (record_at c m).kind ≡ 17 → (record_at c m).stream ≢ i

-- it is an answer with no request open
pub record Unasked (c : List ℕ) (j : ℕ) : Type 0 where
  pub answer : (record_at c j).kind ≡ 17
  pub none_open : Open c j (record_at c j).stream → ⊥

-- it is a request while one is open
pub record AskedTwice (c : List ℕ) (j : ℕ) : Type 0 where
  pub request : (record_at c j).kind ≡ 16
  pub is_open : Open c j (record_at c j).stream

-- ---- The table

-- record j is refused with a number: a line for each, in the order 2, 1, 14, 15, 16
pub data RefusedWith (c : List ℕ) (n j : ℕ) : ℕ → Type 0 where
  unknown : (KnownKind c j → ⊥) → RefusedWith c n j 2
  cut : KnownKind c j → (Whole c j → ⊥) → RefusedWith c n j 1
  not_on_sheet : KnownKind c j → Whole c j → (OnSheet c n j → ⊥) → RefusedWith c n j 14
  unasked : KnownKind c j → Whole c j → OnSheet c n j → Unasked c j → RefusedWith c n j 15
  asked_twice : KnownKind c j → Whole c j → OnSheet c n j → (Unasked c j → ⊥) → AskedTwice c j → RefusedWith c n j 16

-- no line applies to record j
pub record Taken (c : List ℕ) (n j : ℕ) : Type 0 where
  pub is_known : KnownKind c j
  pub is_whole : Whole c j
  pub on_sheet : OnSheet c n j
  pub not_unasked : Unasked c j → ⊥
  pub not_twice : AskedTwice c j → ⊥

-- reading comes to record j: it starts at place p, within the capture, and all records before it are taken
pub record Reached (c : List ℕ) (n j p : ℕ) : Type 0 where
  pub starts : p ≡ size * j
  pub inside : p < length c
  pub before : (i : ℕ) → i < j → Taken c n i

-- a number and its place are given for a capture: a record is refused, at its first byte
pub data Given (c : List ℕ) (n : ℕ) : ℕ → ℕ → Type 0 where
  at_record : {j x p : ℕ} → Reached c n j p → RefusedWith c n j x → Given c n x p

-- none is given: every record that starts within the capture is taken
pub record AllTaken (c : List ℕ) (n : ℕ) : Type 0 where
  pub each : (j : ℕ) → size * j < length c → Taken c n j
