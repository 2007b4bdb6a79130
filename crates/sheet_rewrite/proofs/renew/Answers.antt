-- `sheet_rewrite::renew` meets its contract: refused for want of room, or the ring, the longest messages and the streams.
use mathlib.Core.List.{◌++◌}
use native.Mathlib.Omega.{arith}
use lib.ListN.{length-append}
use Rattle.text.proofs.Writing.{wrote_then}
use Rattle.sheet_rewrite.specs.Rewriting.{front_bytes}
use Rattle.sheet_rewrite.proofs.Filled.{filled_short, filled_whole, front_length}
use Rattle.sheet_rewrite.proofs.renew.Goals as goal

pub returns-then-out-n : goal.returns-then-out-n
returns-then-out-n c =
    let a = c.args in
    let front = front_bytes a.ring a.ring.a in
    let f = filled_short a.out.now (front ++ a.streams.now) (omega (arith, length-append front a.streams.now, front_length a.ring c.requires.kind_value a.ring.a)) (omega arith) in
    record { value = f.0; out_after = f.1 }

pub returns : goal.returns
returns c =
    let a = c.args in
    let front = front_bytes a.ring a.ring.a in
    let f =
    filled_whole a.out.now (front ++ a.streams.now) (omega (arith, length-append front a.streams.now, front_length a.ring c.requires.kind_value a.ring.a))
    (wrote_then c.put_ring-at.ensures c.put_word.ensures) in
    record { value = f.0; out_after = f.1 }
