-- Page 01, 'Sheet records', and page 02, Ask 7: what the ranges and the limits of a P-NET sheet leave of a segment. Assumes nothing.
use Rattle.std.specs.Prelude.{ℕ, ◌-◌, ◌≤◌, ◌<◌}
use Rattle.pnet_rules.specs.Segment.{Stream, Segment, count}

-- a stream's fields in their ranges, behind a first record with N masters
pub record Ranged (N : ℕ) (x : Stream) : Type 0 where
  pub master_from : 1 ≤ x.master
  pub master_to : x.master ≤ N
  pub cycle_from : 1 ≤ x.cycle
  pub cycle_to : x.cycle ≤ 1548
  pub spacing_from : 1 ≤ x.spacing
  pub spacing_to : x.spacing ≤ 1000000000
  pub deadline_from : 1 ≤ x.deadline
  pub deadline_to : x.deadline ≤ x.spacing - x.jitter
  pub jitter_to : x.jitter < x.spacing

-- a segment that a sheet can declare: 1..32 masters, 1..800 streams in their ranges, at most 80 for one master
pub record Declared (S : Segment) : Type 0 where
  pub masters_from : 1 ≤ S.masters
  pub masters_to : S.masters ≤ 32
  pub number_from : 1 ≤ S.number
  pub number_to : S.number ≤ 800
  pub ranges : (i : ℕ) → 1 ≤ i → i ≤ S.number → Ranged S.masters (S.stream i)
  pub counts : (k : ℕ) → count S k ≤ 80
