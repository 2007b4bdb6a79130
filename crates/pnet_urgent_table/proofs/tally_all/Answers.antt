use mathlib.Core.Path.{◌∙◌}
use native.Mathlib.Omega.{arith}
use Rattle.pnet_urgent_table.proofs.Blocks.{going_none, going_next, going_more, going_room}
use Rattle.pnet_urgent_table.proofs.tally_all.Goals as goal

pub loop-j-init : goal.loop-j-init
loop-j-init c =
    let a = c.args in
    going_none a.turn a.spacings.now a.jitters.now a.k a.a a.nexts.now a.rests.now a.table.now c.requires.table_len.0 c.requires.table_len.1

pub tally-ahead-requires-clause-table_len : goal.tally-ahead-requires-clause-table_len
tally-ahead-requires-clause-table_len c =
    let on = c.loop-j.invariant in
    (on.long, going_room on c.requires.slow.2 (omega arith) c.requires.slow.0 c.requires.slow.1)

pub loop-j-preserved : goal.loop-j-preserved
loop-j-preserved c =
    let on = c.loop-j.invariant in
    let t = c.tally-ahead in
    let asking = going_next on c.requires.slow.2 (omega arith) in
    going_more on c.requires.slow.2 (omega arith) t.result.next t.result.rest _ (t.ensures.by_index _ asking) (t.ensures.by_index_2 _ asking) (t.auto.table ∙ on.long)
