-- `capture_log::response` meets its contract: what std's wrapping subtraction promises is `around`.
use Rattle.std.proofs.Common.{ap, rules}
use Rattle.units.specs.Units.{bp}
use Rattle.capture_log.specs.Log.{around}
use Rattle.capture_log.proofs.response.Goals as goal

pub returns : goal.returns
unfolding around
returns c = ap bp (search rules)
