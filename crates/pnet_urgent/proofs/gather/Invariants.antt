-- `pnet_urgent::gather` meets its contract. The invariant: the first r places of the three runs are filled by the first r keys.
use Prim.Native.Nat.{◌+◌}
use Rattle.common.proofs.Runs.{Filling}
use Rattle.pnet_turn.specs.Turn.{at}
use Rattle.pnet_urgent.specs.Masters.{index_at, deadline_at}
use Rattle.pnet_urgent.proofs.gather.Given as goal

abbrev pub invariant-loop-r : goal.invariant-loop-r
invariant-loop-r l =
    Filling (λ k. at l.spacings (index_at l.keys (l.start + k))) l.r l.initial.ts l.ts
    × Filling (λ k. at l.jitters (index_at l.keys (l.start + k))) l.r l.initial.js l.js
    × Filling (λ k. deadline_at l.keys (l.start + k)) l.r l.initial.ds l.ds
