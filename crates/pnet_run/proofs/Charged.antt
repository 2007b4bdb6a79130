-- The charge of either edition covers a visit, as it is at least H. Assumes nothing.
use Rattle.pnet_rules.specs.Segment.{Segment, charged}
use Rattle.pnet_rules.specs.Limits.{Declared}
use Rattle.pnet_rules.proofs.Holds.{charged_covers}
use Rattle.pnet_run.proofs.Charges.{Covers, free, covers_if}

-- a charge that is at least H covers every visit; so that of either edition does
pub charged_covers_visits : {S : Segment} → Declared S → Covers (charged S) free S
charged_covers_visits {S} declared = covers_if declared (charged_covers S)
