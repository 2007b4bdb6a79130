-- `fill` meets its contract. The invariant: each run has its first i places filled.
use Prim.Native.Nat.{◌+◌}
use Rattle.common.proofs.Runs.{Filling}
use Rattle.pnet_search.specs.Arrays.{bound_in, refined_in, rounds_in}
use Rattle.pnet_search.proofs.fill.Given as goal

abbrev pub invariant-loop-i : goal.invariant-loop-i
invariant-loop-i l =
    record {
      bound : Filling (λ j. bound_in l.counts l.charges l.n (j + 1)) l.i l.initial.bound l.bound;
      refined : Filling (λ j. refined_in l.counts l.charges l.ends l.pairs l.n (j + 1)) l.i l.initial.refined l.refined;
      rounds : Filling (λ j. rounds_in l.counts l.charges l.ends l.pairs l.n (j + 1)) l.i l.initial.rounds l.rounds;
    }
