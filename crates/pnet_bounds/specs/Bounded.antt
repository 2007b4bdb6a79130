-- Page 02, 'Ask 1': the sheet that a capture is laid beside, and the master, bound, spacing and jitter of each of its streams.
-- Assumes nothing.
use Rattle.std.specs.Prelude.{ℕ, List, length, ltb}
use Rattle.common.specs.Checks.{verdict}
use Rattle.common.specs.Runs.{filled}
use Rattle.sheet_rules.specs.Whole.{Outcome, or_else, reading}
use Rattle.sheet_rules.specs.Whole.Outcome.{Read, Not}
use Rattle.pnet_rules.specs.Segment.{Segment, segment_of, bound}
use Rattle.pnet_plan.specs.Planned.{segment_checks, first_late, at_place}

-- the sheet's reading refusals, 3 at 0 if it isn't P-NET, 13 with the number of streams, 8
abbrev pub bounded_by : Outcome → ℕ → Outcome
bounded_by (Read H) room = or_else (verdict (segment_checks H (ltb room (length H.streams)) (length H.streams))) (Read H)
bounded_by (Not n p) room = Not n p

unfoldable pub bounded : List ℕ → ℕ → Outcome
unfolding reading verdict first_late segment_of
bounded s room = bounded_by (reading s) room

-- ---- Its streams

-- stream i's bound: R of its master
unfoldable pub bound_of : Segment → ℕ → ℕ
unfolding bound
bound_of S i = bound S (S.stream i).master

abbrev pub master_of : Segment → ℕ → ℕ
master_of S i = (S.stream i).master

-- T: how far apart the nominal times of two requests of stream i are at least
abbrev pub spacing_of : Segment → ℕ → ℕ
spacing_of S i = (S.stream i).spacing

-- J: how far behind its nominal time a request comes at most
abbrev pub jitter_of : Segment → ℕ → ℕ
jitter_of S i = (S.stream i).jitter

-- a lent run: a figure of each stream, later places as they were; on a refusal all of it as it was
abbrev pub stream_run : Outcome → (Segment → ℕ → ℕ) → List ℕ → List ℕ
stream_run (Read H) figure old = filled (at_place (figure (segment_of H))) (length H.streams) old
stream_run (Not n p) figure old = old
