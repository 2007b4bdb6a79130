-- `planner_output::report` ends as it was told, or as cut. Assumes nothing.
use Rattle.planner_output.proofs.Ended.{one_of_two}
use Rattle.planner_output.proofs.report.Goals as goal

pub returns : goal.returns
returns c = one_of_two _ c.unless_cut.ensures
