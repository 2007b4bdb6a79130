-- `capture_tally::on_sheet` meets its contract.
use Rattle.std.proofs.Common.{refl}
use Rattle.sheet_record.specs.Kinds.{within}
use Rattle.capture_tally.proofs.on_sheet.Goals as goal

pub returns : goal.returns
unfolding within
returns c = rw c.min.ensures refl
