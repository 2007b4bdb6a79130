-- `report_phrases::put_name` stores `M` and two digits.
use Rattle.report_phrases.specs.Phrases.{name_of}
use Rattle.text.proofs.Writing.{wrote_then}
use Rattle.report_phrases.proofs.put_name.Goals as goal

pub returns : goal.returns
unfolding name_of
returns c = wrote_then c.put_word-number.ensures c.put_places.ensures
