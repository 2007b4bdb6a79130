-- Page 02, 'Ask 11': what a report says of a sheet whose urgent requests go first: its refusal, or its streams and the first of them that first-come refuses. Assumes nothing.
use Rattle.std.specs.Prelude.{ℕ, length, leb}
use Rattle.common.specs.Sums.{when}
use Rattle.units.specs.Units.{bp}
use Rattle.sheet_rules.specs.Whole.{Outcome}
use Rattle.sheet_rules.specs.Whole.Outcome.{Read, Not}
use Rattle.pnet_rules.specs.Segment.{Segment, segment_of}
use Rattle.pnet_plan.specs.Planned.{first_late}
use Rattle.pnet_bounds.specs.Bounded.{bound_of}
use Rattle.pnet_urgent_streams.specs.declared.answer.Listed.{Listed}
use Rattle.std.specs.declared.result.Result.TheVariants.{Ok, Err}
use Rattle.common.specs.Checks.{refusal}
use Rattle.std.specs.declared.result.Result.{Result}
use Rattle.common.specs.declared.Refusal.{Refusal}

-- D of stream i
abbrev pub deadline_of : Segment → ℕ → ℕ
deadline_of S i = (S.stream i).deadline

-- R of the first stream that first-come refuses with 8, and 0 where there is none
unfoldable pub late_bound : Segment → ℕ
unfolding first_late bound_of
late_bound S = when (leb (first_late S) S.number) (bound_of S (first_late S))

-- the streams of the sheet, the first that first-come refuses, the number past the last where there is none, and its R; or the refusal
abbrev pub listed_of : Outcome → Result Listed Refusal
listed_of (Read H) = Ok (record { streams = length H.streams; late = first_late (segment_of H); bound = bp (late_bound (segment_of H)) })
listed_of (Not n p) = Err (refusal n p)
