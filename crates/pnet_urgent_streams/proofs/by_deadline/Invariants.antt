-- `pnet_urgent_streams::by_deadline` meets its contract. The invariant: the two runs have their first i places filled, and `at` is the place of the next stream.
use mathlib.Core.Path.{◌≡◌}
use Rattle.common.proofs.Runs.{Filling}
use Rattle.sheet_rules.specs.Ready.{stream_place}
use Rattle.pnet_plan.specs.Planned.{at_place}
use Rattle.pnet_plan.specs.Arrays.{segment_in}
use Rattle.pnet_bounds.specs.Bounded.{master_of}
use Rattle.pnet_urgent_streams.specs.Listed.{deadline_of}
use Rattle.pnet_urgent_streams.proofs.by_deadline.Given as goal

abbrev pub invariant-loop-i : goal.invariant-loop-i
invariant-loop-i l =
    (l.at ≡ stream_place l.s l.i)
    × Filling (at_place (master_of (segment_in l.s))) l.i l.initial.masters l.masters
    × Filling (at_place (deadline_of (segment_in l.s))) l.i l.initial.deadlines l.deadlines
