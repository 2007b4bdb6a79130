-- `pnet_path::answer` meets its contract: a refused sheet's own, then what `over_gateways` says.
use Rattle.pnet_path.proofs.Laws.{answer_of_refused, answer_of_others}
use Rattle.pnet_path.proofs.answer.Goals as goal

pub returns-in-Some : goal.returns-in-Some
returns-in-Some c = answer_of_refused c.args.way _ c.in-Some.is

pub returns : goal.returns
returns c = answer_of_others c.args.way _ c.in_default.is _ c.saturating_sub-gateways.ensures c.over_gateways.result c.over_gateways.ensures
