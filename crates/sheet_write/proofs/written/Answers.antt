-- `sheet_write::written` meets its contract: the writer puts all known kinds but 3.
use mathlib.Core.Path.{sym, ap, ◌∙◌}
use mathlib.Core.Bool.{Bool, not, ◌&&◌}
use lib.Dec.{eqb}
use Rattle.sheet_record.proofs.Parts.{written_is}
use Rattle.sheet_write.proofs.written.Goals as goal

pub returns : goal.returns
returns c = ap (λ (b : Bool). b && not (eqb c.args.kind 3)) c.known.ensures ∙ sym (written_is c.args.kind)
