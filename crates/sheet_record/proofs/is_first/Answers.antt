-- `sheet_record::is_first` meets its contract: 1, 3, 5 or 9.
use mathlib.Core.Path.{sym}
use Rattle.sheet_record.proofs.Parts.{first_is}
use Rattle.sheet_record.proofs.is_first.Goals as goal

pub returns : goal.returns
returns c = sym (first_is c.args.kind)
