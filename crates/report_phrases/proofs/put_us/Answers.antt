-- `report_phrases::put_us` stores a count of us and its unit word.
use Rattle.text.specs.Text.{counted}
use Rattle.report_phrases.specs.Phrases.{in_us}
use Rattle.report_phrases.proofs.put_us.Goals as goal

pub returns : goal.returns
unfolding counted in_us
returns c = c.put_counted.ensures
