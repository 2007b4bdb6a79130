-- `report_phrases::put_ns` stores a count of ns and its unit word.
use Rattle.text.specs.Text.{counted}
use Rattle.report_phrases.specs.Phrases.{in_ns}
use Rattle.report_phrases.proofs.put_ns.Goals as goal

pub returns : goal.returns
unfolding counted in_ns
returns c = c.put_counted.ensures
