-- `pnet_crossing::over_gateways` meets its contract: 17, and then what `cross` says.
use Rattle.common.proofs.Outside.{inside}
use Rattle.pnet_crossing.proofs.Checked.{too_many}
use Rattle.pnet_crossing.proofs.over_gateways.Goals as goal

pub returns-then-gateways : goal.returns-then-gateways
returns-then-gateways c = too_many _ _ _ _ _ c.if-gateways.true

pub cross-requires : goal.cross-requires
cross-requires c = inside 1 _ 10 c.if-gateways.false

pub returns : goal.returns
returns c = c.cross.ensures
