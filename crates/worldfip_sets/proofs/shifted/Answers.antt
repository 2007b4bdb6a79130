-- `worldfip_sets::shifted` meets its contract.
use borrow.Author.Rules.{rules}
use Rattle.worldfip_sets.proofs.Members.{shifted_one}
use Rattle.worldfip_sets.proofs.shifted.Goals as goal

pub returns : goal.returns
returns c = shifted_one c.args.r (search rules)
