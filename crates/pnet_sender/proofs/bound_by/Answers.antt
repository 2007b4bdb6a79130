-- `pnet_sender::bound_by` meets its contract: V is the segment's, so R of the master that sends is its own.
use native.Mathlib.Omega.{arith}
use Rattle.pnet_sender.proofs.Sends.{own_small, sender_bound, sender_late}
use Rattle.pnet_sender.proofs.bound_by.Goals as goal

pub judge-found-requires : goal.judge-found-requires
judge-found-requires c = c.requires

pub overflow_mul-bound : goal.overflow_mul-bound
overflow_mul-bound c =
    let start = c in
    let j = c.judge-found in
    let o = c.streams_of-own in
    omega (arith, own_small start.requires start.args.master o.result j.result.turn o.ensures j.ensures.0)

pub returns-then-n-late : goal.returns-then-n-late
returns-then-n-late c =
    let start = c in
    let j = c.judge-found in
    let o = c.streams_of-own in
    sender_bound start.requires start.args.master o.result j.result.turn o.ensures j.ensures.0 j.result.late j.ensures.1 c.if-n-late.true

pub returns : goal.returns
returns c =
    let start = c in
    let j = c.judge-found in
    sender_late start.requires start.args.master j.result.late j.ensures.1 c.if-n-late.false
