-- `search` meets its contract: a stream that has no walk was done at the start, and the others are when the walks are.
use native.Mathlib.Omega.{arith}
use Rattle.pnet_urgent_search.proofs.Carries.{started_all}
use Rattle.pnet_urgent_search.proofs.Blocks.{walking_none, ended_all}
use Rattle.pnet_urgent_search.proofs.search.Goals as goal

pub walk-requires-clause-walks_in_bounds : goal.walk-requires-clause-walks_in_bounds
walk-requires-clause-walks_in_bounds c =
    let p = c.requires in
    let walks = c.min-walks.ensures in
    let started = started_all c.start.ensures _ p.0.deadlines in (
      omega (arith, p.1, started.apart.slots_long, walks),
      omega (arith, p.2, started.apart.rounds_long, walks),
      walking_none p.0 c.loaded-k.ensures walks started,
    )

pub returns-clause-by_index : goal.returns-clause-by_index
returns-clause-by_index c =
    let p = c.requires in
    let started = started_all c.start.ensures _ p.0.deadlines in
    let f = c.walk.ensures in
    (ended_all p.0 c.loaded-k.ensures c.min-walks.ensures started f.0 f.1).each
