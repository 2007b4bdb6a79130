-- `profibus_plan::together` meets its contract. The loop's invariant: the total is that of as many masters, and fits.
use Rattle.std.proofs.Common.{◌≡◌, ◌*◌, ◌≤◌, get_or}
use Rattle.common.specs.Sums.{upto}
use Rattle.profibus_plan.proofs.together.Given as goal

abbrev pub invariant-loop-m : goal.invariant-loop-m
invariant-loop-m l = (l.total ≡ upto (λ y. get_or l.fn.messages y 0) l.m-index) × (l.total ≤ l.m-index * 100000)
