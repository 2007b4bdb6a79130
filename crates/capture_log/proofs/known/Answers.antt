-- `capture_log::known` meets its contract.
use Rattle.std.proofs.Common.{refl}
use Rattle.capture_log.specs.Records
use Rattle.capture_log.proofs.known.Goals as goal

pub returns : goal.returns
unfolding Records.known
returns c = refl
