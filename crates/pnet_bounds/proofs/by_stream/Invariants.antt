-- `pnet_bounds::by_stream` meets its contract. The invariant: the four runs have their first i places filled, and `at` is the place of the
-- next stream.
use mathlib.Core.Path.{◌≡◌}
use Rattle.common.proofs.Runs.{Filling}
use Rattle.sheet_rules.specs.Ready.{stream_place}
use Rattle.pnet_plan.specs.Planned.{at_place}
use Rattle.pnet_plan.specs.Arrays.{segment_in}
use Rattle.pnet_bounds.specs.Bounded.{master_of, bound_of, spacing_of, jitter_of}
use Rattle.pnet_bounds.proofs.by_stream.Given as goal

abbrev pub invariant-loop-i : goal.invariant-loop-i
invariant-loop-i l =
    record {
      stands : l.at ≡ stream_place l.s l.i;
      masters : Filling (at_place (master_of (segment_in l.s))) l.i l.initial.masters l.masters;
      bound : Filling (at_place (bound_of (segment_in l.s))) l.i l.initial.bound l.bound;
      spacing : Filling (at_place (spacing_of (segment_in l.s))) l.i l.initial.spacing l.spacing;
      jitter : Filling (at_place (jitter_of (segment_in l.s))) l.i l.initial.jitter l.jitter;
    }
