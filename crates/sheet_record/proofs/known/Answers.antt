-- `sheet_record::known` meets its contract: the known kinds are 1..10.
use Rattle.sheet_record.proofs.Tables.{known_within}
use Rattle.sheet_record.proofs.known.Goals as goal

pub returns : goal.returns
returns c = known_within c.args.kind
