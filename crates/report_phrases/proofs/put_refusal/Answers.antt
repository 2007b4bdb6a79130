-- `report_phrases::put_refusal` stores the line of a refusal.
use Rattle.report_phrases.specs.Phrases.{refusal_text}
use Rattle.report_phrases.proofs.put_refusal.Goals as goal

pub returns : goal.returns
unfolding refusal_text
returns c = c.put_refused.ensures
