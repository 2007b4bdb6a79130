-- `sheet_read::edition` meets its contract: 1 where no record of an edition stands, and else what it says.
use Rattle.sheet_read.proofs.Editions.{none_met, one_met}
use Rattle.sheet_read.proofs.edition.Goals as goal

pub returns-then-met-eq2 : goal.returns-then-met-eq2
returns-then-met-eq2 c = none_met _ _ c.record_of-met.ensures c.if-met-eq2.true

pub returns-else-met-eq2 : goal.returns-else-met-eq2
returns-else-met-eq2 c = one_met _ _ c.record_of-met.ensures c.if-met-eq2.false
