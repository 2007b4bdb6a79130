-- `sheet_messages::lacks` meets its contract.
use mathlib.Core.Path.{◌∙◌}
use native.Mathlib.Omega.{arith}
use Rattle.sheet_messages.proofs.Lacking.{lacks_among}
use Rattle.sheet_messages.proofs.lacks.Goals as goal

pub returns : goal.returns
returns c = c.contains.ensures.value ∙ lacks_among _ c.args.n c.args.given.now (omega arith) (omega arith)
