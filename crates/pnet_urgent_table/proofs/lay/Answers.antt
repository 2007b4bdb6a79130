-- `lay` meets its contract.
use mathlib.Core.Path.{◌≡◌, ◌∙◌}
use Prim.Native.Nat.{◌+◌}
use native.Mathlib.Omega.{arith}
use lib.ListN.{length}
use Rattle.pnet_urgent_table.proofs.Blocks.{queued_small, risen_sum, risen_laid}
use Rattle.pnet_urgent_table.proofs.lay.Goals as goal
use Rattle.pnet_urgent_table.proofs.lay.Goals.{After-tally_all}

-- the table stays as long
counted-long : (c : After-tally_all) → length c.tally_all.new.table ≡ 512
counted-long c = c.tally_all.auto.table ∙ (c.fill.auto.self ∙ c.requires.slow.2)

pub add_up-requires : goal.add_up-requires
add_up-requires c = (
  counted-long (goal.at.add_up-requires c).After-tally_all,
  λ t h. omega (arith, risen_sum c.tally_all.ensures.risen t h, c.requires.due.1, queued_small c.requires.slow.0 (c.args.a + t) (omega arith) c.args.k (omega arith)),
)

pub returns-clause-laid : goal.returns-clause-laid
returns-clause-laid c =
    let u = c.add_up in
    risen_laid c.tally_all.ensures.risen c.args.base _ c.requires.due.1 (u.auto.table ∙ counted-long (goal.at.returns-clause-laid c).After-tally_all) u.ensures
