-- `profibus_plan::largest_target` meets its contract. After i streams, `borne` is the longest rotation that streams 1..i bear, and `limiting`
-- the first of them that bears no longer one.
use mathlib.Core.Path.{◌≡◌}
use Rattle.sheet_rules.specs.Ready.{sheet_in, stream_place}
use Rattle.profibus_rules.specs.Ring.{ring_of}
use Rattle.profibus_plan.proofs.Tight.{Tight}
use Rattle.profibus_plan.proofs.largest_target.Given as goal

abbrev pub invariant-loop-i : goal.invariant-loop-i
invariant-loop-i l =
    (l.at ≡ stream_place l.s l.i) × Tight (ring_of (sheet_in l.s)) l.i l.borne l.limiting
