-- `worldfip_sets::factor` calls itself with a smaller second argument each time.
use Rattle.worldfip_sets.proofs.+factor.Given as goal

abbrev pub decreases-factor : goal.decreases-factor
decreases-factor l = l.b
