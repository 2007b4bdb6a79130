-- Page 02, 'Ask 4', several P-NET segments: a path, its figures, and its answer. Assumes nothing.
use Rattle.std.specs.Prelude.{ℕ, zero, suc, ◌+◌, ◌-◌, List, Bool, true, not, ◌||◌, eqb}
use Rattle.sheet_record.specs.Kinds.{within}
use Rattle.sheet_rules.specs.Whole.{Outcome}
use Rattle.sheet_rules.specs.Whole.Outcome.{Read, Not}
use Rattle.pnet_rules.specs.Segment.{Segment, segment_of, count, bound}
use Rattle.pnet_bounds.specs.Bounded.{bounded}
use Rattle.pnet_sender.specs.Sender.{sound}
use Rattle.pnet_crossing.specs.Cost.{crossing_by}
use Rattle.units.specs.declared.BitPeriods.{BitPeriods}
use Rattle.std.specs.declared.result.Result.TheVariants.{Err}
use Rattle.common.specs.Checks.{refusal}
use Rattle.std.specs.declared.result.Result.{Result}
use Rattle.common.specs.declared.Refusal.{Refusal}

-- ---- A path

-- one segment of a path
pub record Hop : Type 0 where
  -- the forwarding time, in bp, of the gateway that leads there; none leads to the first segment, and its is not looked at
  pub forwarding : ℕ
  -- the bytes of its sheet, and the master that sends there: after the first segment the gateway
  pub sheet : List ℕ
  pub sender : ℕ

-- segments 1..segments, and D in bp
pub record Path : Type 0 where
  pub segments : ℕ
  pub hop : ℕ → Hop
  pub deadline : ℕ

-- gateway i lies between segments i and i + 1
abbrev pub gateways : Path → ℕ
gateways P = P.segments - 1

-- what the sheet of segment i is: accepted, or refused for itself
unfoldable pub sheet_at : Path → ℕ → Outcome
unfolding bounded
sheet_at P i = sound (P.hop i).sheet

-- ---- Its figures

-- R of master k by a sheet
abbrev pub bound_from : Outcome → ℕ → ℕ
bound_from (Read H) k = bound (segment_of H) k
bound_from (Not n p) k = 0

-- R: segment i's bound for its sender
unfoldable pub bound_at : Path → ℕ → ℕ
unfolding sheet_at bound segment_of
bound_at P i = bound_from (sheet_at P i) (P.hop i).sender

-- the master that sends on segment i
unfoldable pub sender_at : Path → ℕ → ℕ
sender_at P i = (P.hop i).sender

-- F: the forwarding time of gateway i
unfoldable pub forwarding_at : Path → ℕ → ℕ
forwarding_at P i = (P.hop (i + 1)).forwarding

-- master k is absent from a segment, or without streams
unfoldable pub absent_in : Segment → ℕ → Bool
unfolding within count
absent_in S k = not (within 1 k S.masters) || eqb (count S k) 0

abbrev pub absent_from : Outcome → ℕ → Bool
absent_from (Read H) k = absent_in (segment_of H) k
absent_from (Not n p) k = true

unfoldable pub absent_at : Path → ℕ → Bool
unfolding sheet_at absent_in segment_of
absent_at P i = absent_from (sheet_at P i) (P.hop i).sender

-- ---- The answer

-- a sheet's own refusal, or what follows
abbrev pub refused_or : Outcome → Result BitPeriods Refusal → Result BitPeriods Refusal
refused_or (Read H) c = c
refused_or (Not n p) c = Err (refusal n p)

-- 'each sheet's own in path order', of n segments from segment i on, and then the path's
unfoldable pub crossed_from : Path → ℕ → ℕ → Result BitPeriods Refusal
unfolding sheet_at crossing_by bound_at forwarding_at absent_at
crossed_from P zero i = crossing_by (bound_at P) (forwarding_at P) (absent_at P) (gateways P) P.deadline
crossed_from P (suc n) i = refused_or (sheet_at P i) (crossed_from P n (suc i))

unfoldable pub crossed : Path → Result BitPeriods Refusal
unfolding crossed_from
crossed P = crossed_from P P.segments 1
