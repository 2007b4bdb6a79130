-- `pnet_simulate::visit` meets its contract.
use borrow.Author.Rules.{rules}
use Rattle.pnet_simulate.proofs.Visits.{visited_used, visited_unused}
use Rattle.pnet_simulate.proofs.visit.Goals as goal

pub returns-then-p-owner : goal.returns-then-p-owner
returns-then-p-owner c = (
  visited_used _ _ _ _ _ _ _ c.oldest-p.ensures c.if-p-owner.true c.wide.ensures.0 c.behind.ensures.0,
  search rules,
  search rules,
)

pub returns-else-p-owner : goal.returns-else-p-owner
returns-else-p-owner c = (
  visited_unused _ _ _ _ _ _ c.oldest-p.ensures c.if-p-owner.false c.behind-else-p-owner.ensures.0,
  search rules,
  search rules,
)
