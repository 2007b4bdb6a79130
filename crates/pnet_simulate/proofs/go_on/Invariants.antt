-- `pnet_simulate::go_on` meets its contract. The loop's invariant: where the bus stands after v visits; each takes at most 65,582 bp, so that
-- the instant fits 64 bits.
use Prim.Native.Nat.{◌+◌, ◌*◌, ◌≤◌}
use mathlib.Core.Path.{◌≡◌}
use lib.ListN.{length}
use Rattle.pnet_simulate.specs.Simulated.{bus_of, visited_times}
use Rattle.pnet_simulate.proofs.go_on.Given as goal

abbrev pub invariant-loop : goal.invariant-loop
invariant-loop l =
    record {
      stands : bus_of l.stage l.answered ≡ visited_times l.n l.owner l.cycle (bus_of l.initial.stage l.initial.answered) l.counter;
      early : l.stage.now ≤ 40 + l.counter * 65582;
      master : l.stage.master ≤ l.n;
      long : length l.answered ≡ length l.initial.answered;
    }
