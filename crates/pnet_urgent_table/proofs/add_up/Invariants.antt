-- `add_up` meets its contract. The invariant: the places in front are added up, and the total is what they come to.
use Rattle.pnet_urgent_table.proofs.Blocks.{Adding}
use Rattle.pnet_urgent_table.proofs.add_up.Given as goal

abbrev pub invariant-loop-x : goal.invariant-loop-x
invariant-loop-x l = Adding l.base l.initial.table l.total l.x-index l.table
