-- `worldfip_sets::first_of` meets its contract.
use mathlib.Core.Path.{refl}
use native.Mathlib.Omega.{arith}
use Rattle.worldfip_sets.specs.Sets.{lowest}
use Rattle.worldfip_sets.proofs.Picks.{lowest_under}
use Rattle.worldfip_sets.proofs.first_of.Goals as goal

pub returns : goal.returns
unfolding lowest
returns c = (refl, λ h. lowest_under c.args.x (lowest c.args.x) h (omega arith) refl)
