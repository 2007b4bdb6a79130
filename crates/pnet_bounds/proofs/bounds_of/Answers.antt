-- `pnet_bounds::bounds_of` meets its contract: V is the segment's, so each stream's bound is its own.
use Prim.Native.Nat.{◌<◌}
use native.Mathlib.Omega.{arith}
use Rattle.pnet_plan.proofs.Bytes.{streams_few}
use Rattle.pnet_plan.proofs.Cases.{counts_at}
use Rattle.pnet_bounds.proofs.Bounded.{returned_late, returned_accepted}
use Rattle.pnet_bounds.proofs.bounds_of.Goals as goal

pub judge-found-requires : goal.judge-found-requires
judge-found-requires c = c.requires.0

pub returns-then-late-n : goal.returns-then-late-n
returns-then-late-n c =
    let start = c in
    let a = start.args in
    let j = c.judge-found in
    let r = returned_late start.requires.0 a.room start.requires.1 j.result.late j.ensures.1 c.if-late-n.true a.masters.now a.bound.now a.spacing.now a.jitter.now in
    record { value = r.0; masters_after = r.1.0; bound_after = r.1.1.0; spacing_after = r.1.1.1.0; jitter_after = r.1.1.1.1 }

pub by_stream-requires : goal.by_stream-requires
by_stream-requires c =
    let h = c.requires.0 in
    let few = streams_few h.ready in
    record {
      ready = (h.ready, omega arith, omega arith, omega arith, omega arith);
      turn_value = (c.judge-found.ensures.0, counts_at h);
    }

pub returns : goal.returns
returns c =
    let start = c in
    let a = start.args in
    let j = c.judge-found in
    let over : a.n < j.result.late = omega (arith, c.if-late-n.false) in
    let r = returned_accepted start.requires.0 a.room start.requires.1 j.result.late j.ensures.1 over a.masters.now a.bound.now a.spacing.now a.jitter.now _ _ _ _
    c.by_stream.ensures.masters_after c.by_stream.ensures.bound_after c.by_stream.ensures.spacing_after c.by_stream.ensures.jitter_after in
    record { value = r.0; masters_after = r.1.0; bound_after = r.1.1.0; spacing_after = r.1.1.1.0; jitter_after = r.1.1.1.1 }
