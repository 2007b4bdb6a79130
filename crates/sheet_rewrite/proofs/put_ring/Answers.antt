use mathlib.Core.Path.{◌≡◌}
use Prim.Native.Nat.{◌+◌, ◌-◌}
use native.Mathlib.Omega.{arith}
use Rattle.sheet_rewrite.proofs.Filled.{ring_written, message_written, ring_size, fronted_none, ring_room, fronted_room, fronted_more, fronted_all}
use Rattle.sheet_rewrite.proofs.put_ring.Goals as goal

pub put_one-at-requires : goal.put_one-at-requires
put_one-at-requires c = record { kind_value = ring_written; kind_in_bounds = omega (arith, ring_size, c.requires.a_in_bounds) }

pub loop-master-init : goal.loop-master-init
loop-master-init c = fronted_none _ _ _

pub put_one-at-requires-in-loop-master : goal.put_one-at-requires-in-loop-master
put_one-at-requires-in-loop-master c =
    record {
      kind_value = message_written;
      kind_in_bounds = fronted_room _ c.requires.kind_value c.loop-master.invariant (ring_room c.args.ring c.requires.a_in_bounds c.put_one-at.ensures) (omega arith);
    }

pub loop-master-preserved : goal.loop-master-preserved
loop-master-preserved c =
    let l = c.loop-master in
    let e : l.master + 1 - 1 ≡ l.master = omega arith in
    rw e (fronted_more _ c.requires.kind_value l.invariant (omega arith) (omega arith) c.put_one-at-in-loop-master.ensures)

-- a ring without masters, or behind the last of them
pub returns : goal.returns
returns c = fronted_all _ c.requires.kind_value c.loop-master.invariant c.put_one-at.ensures (omega arith)

pub returns-2 : goal.returns-2
returns-2 c =
    let l = c.loop-master in
    let last = fronted_more _ c.requires.kind_value l.invariant (omega arith) (omega arith) c.put_one-at-in-loop-master.ensures in
    fronted_all _ c.requires.kind_value last c.put_one-at.ensures (omega arith)
