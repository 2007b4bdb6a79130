-- `pnet_path::stopped` meets its contract.
use Rattle.pnet_path.specs.Ways
use Rattle.pnet_path.proofs.stopped.Goals as goal

pub returns : goal.returns
unfolding Ways.stopped Ways.one_more_of
returns c = rw c.saturating_add.ensures
