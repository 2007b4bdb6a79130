-- Page 02, 'Ask 1', a capture that is read piece by piece: what is kept of the pieces before, in runs of 800 places, place i for
-- stream i + 1, and what a piece makes of it. A piece ends with a record, but for the last, whose end is the capture's.
-- Assumes nothing.
use Rattle.std.specs.Prelude.{ℕ, ◌+◌, ◌-◌, ◌%◌, ◌^◌, min, max, List, slice_index, ⊤}
use Rattle.common.specs.Checks.{refusal, unless}
use Rattle.common.specs.Runs.{tab}
use Rattle.capture_log.specs.Log as Log
use Rattle.capture_log.specs.Log.{Before}
use Rattle.capture_log.specs.Records.{events, heard}
use Rattle.std.specs.declared.result.Result.TheVariants.{Ok, Err}
use Rattle.std.specs.declared.result.Result.{Result}
use Rattle.common.specs.declared.Refusal.{Refusal}

-- no sheet has more streams
abbrev pub most : ℕ
most = 800

-- what the runs say of the records before: 1 or 0 requests left open, and the stamp of the last one
abbrev pub before : List ℕ → List ℕ → Before
before left since = record { waiting = λ i. slice_index left (i - 1); stamp = λ i. slice_index since (i - 1) }

-- ---- The answer to the piece p, for n streams, behind b

-- all of it, or the refusal with its place in the piece
unfoldable pub answer_to : List ℕ → ℕ → Before → Result ⊤ Refusal
unfolding heard
answer_to p n b = unless (heard p (min n most) b) tt

-- the answer to a piece with d bytes before it: its place is counted from their start
abbrev pub behind : ℕ → Result ⊤ Refusal → Result ⊤ Refusal
behind d (Ok tt) = Ok tt
behind d (Err r) = Err (refusal r.no (d + r.place))

-- ---- The runs then

-- a run holds `new` where all of the piece is taken, and where it is refused what it had, `old`
abbrev pub run_by : Result ⊤ Refusal → List ℕ → List ℕ → List ℕ
run_by (Ok tt) new old = new
run_by (Err r) new old = old

-- what is new of each of the five, by all records of the piece
unfoldable pub left_after : List ℕ → Before → List ℕ
unfolding tab Log.left events
left_after p b = tab (λ i. Log.left b (events p) (i + 1)) most

unfoldable pub since_after : List ℕ → Before → List ℕ
unfolding tab Log.since events
since_after p b = tab (λ i. Log.since b (events p) (i + 1)) most

-- counts have 64 bits, which no capture below 2^64 bytes fills
unfoldable pub answers_after : List ℕ → List ℕ → List ℕ
unfolding tab Log.answered events
answers_after p old = tab (λ i. (slice_index old i + Log.answered (events p) (i + 1)) % 2 ^ 64) most

unfoldable pub largest_after : List ℕ → Before → List ℕ → List ℕ
unfolding tab Log.largest events
largest_after p b old = tab (λ i. max (slice_index old i) (Log.largest b (events p) (i + 1))) most

unfoldable pub above_after : List ℕ → Before → List ℕ → List ℕ → List ℕ
unfolding tab Log.above events
above_after p b bound old = tab (λ i. (slice_index old i + Log.above b (slice_index bound i) (events p) (i + 1)) % 2 ^ 64) most
