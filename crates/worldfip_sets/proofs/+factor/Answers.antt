use Rattle.worldfip_sets.proofs.Divides.{common_more}
use Rattle.worldfip_sets.proofs.+factor.Goals as goal

pub returns-else-b-eq0 : goal.returns-else-b-eq0
returns-else-b-eq0 t c = common_more c.args.a c.args.b c.factor.result c.factor.ensures
