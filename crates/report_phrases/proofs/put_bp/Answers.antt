-- `report_phrases::put_bp` stores a count of bp and its unit word.
use Rattle.text.specs.Text.{counted}
use Rattle.report_phrases.specs.Phrases.{in_bp}
use Rattle.report_phrases.proofs.put_bp.Goals as goal

pub returns : goal.returns
unfolding counted in_bp
returns c = c.put_counted.ensures
