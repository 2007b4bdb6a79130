-- `sheet_line::has_word` meets its contract: the kinds that are known, but 3.
use mathlib.Core.Path.{ap, ◌∙◌}
use mathlib.Core.Bool.{Bool, not, ◌&&◌}
use lib.Dec.{eqb}
use Rattle.sheet_line.proofs.Lines.{known_but_3}
use Rattle.sheet_line.proofs.has_word.Goals as goal

pub returns : goal.returns
returns c = let k = c.args.kind in ap (λ (t : Bool). not (eqb k 3) && t) c.known.ensures ∙ known_but_3 k
