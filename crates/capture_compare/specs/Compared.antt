-- Page 02, 'Ask 1': what laying a capture beside a sheet's bounds answers, and what the four lent runs then hold. Assumes nothing.
use Rattle.std.specs.Prelude.{ℕ, min, List, length}
use Rattle.sheet_rules.specs.Whole.{Outcome, or_else}
use Rattle.sheet_rules.specs.Whole.Outcome.{Read, Not}
use Rattle.pnet_rules.specs.Segment.{Segment}
use Rattle.pnet_bounds.specs.Bounded.{bounded, bound_of}
use Rattle.capture_log.specs.Log.{fresh, left, answered, largest, above}
use Rattle.capture_log.specs.Records.{events, heard}

-- the sheet's refusals, then those of the capture c, record by record
abbrev pub compared_by : Outcome → List ℕ → Outcome
compared_by (Read H) c = or_else (heard c (length H.streams) fresh) (Read H)
compared_by (Not n p) c = Not n p

-- for four lent runs of these lengths; the shortest is the room
unfoldable pub compared : List ℕ → List ℕ → ℕ → ℕ → ℕ → ℕ → Outcome
unfolding bounded heard
compared s c la lb lc ld = compared_by (bounded s (min la (min lb (min lc ld)))) c

-- ---- The figures of a stream

-- answers, the largest response, answers above the bound, and 1 or 0 requests left open
unfoldable pub answered_of : List ℕ → Segment → ℕ → ℕ
unfolding answered events
answered_of c S i = answered (events c) i

unfoldable pub largest_of : List ℕ → Segment → ℕ → ℕ
unfolding largest events
largest_of c S i = largest fresh (events c) i

unfoldable pub above_of : List ℕ → Segment → ℕ → ℕ
unfolding above events bound_of
above_of c S i = above fresh (bound_of S i) (events c) i

unfoldable pub left_of : List ℕ → Segment → ℕ → ℕ
unfolding left events
left_of c S i = left fresh (events c) i
