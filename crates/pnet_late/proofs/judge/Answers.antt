-- `pnet_late::judge` meets its contract: V by the sheet's edition is the segment's, and so is the first late stream.
use mathlib.Core.Path.{◌≡◌}
use Rattle.pnet_rules.specs.Segment.{turn}
use Rattle.pnet_plan.specs.Arrays.{segment_in}
use Rattle.pnet_plan.proofs.Cases.{counts_at, turn_is}
use Rattle.pnet_late.proofs.judge.Goals as goal
use Rattle.pnet_late.proofs.judge.Goals.{After-turn_of-turn}

v-is : (c : After-turn_of-turn) → c.turn_of-turn.result.0 ≡ turn (segment_in c.args.s.now)
v-is c = turn_is c.requires c.edition-edition.result c.edition-edition.ensures c.turn_of-turn.result c.turn_of-turn.ensures

pub first_late-late-requires : goal.first_late-late-requires
first_late-late-requires c =
    let h = c.requires in
    record { ready = h.ready; turn_value = (v-is (goal.at.first_late-late-requires c).After-turn_of-turn, counts_at h) }

pub returns : goal.returns
returns c = (v-is (goal.at.returns c).After-turn_of-turn, c.first_late-late.ensures)
