-- `planner_beside::finish` writes the report that was made, and the status that it says. Assumes nothing.
use Rattle.report_beside.proofs.Kept.{clean_tells, faulty_tells}
use Rattle.planner_beside.proofs.finish.Goals as goal

pub write-requires : goal.write-requires
write-requires c =
    let held = c.requires.held in
    clean_tells held _ _ _ (c.report.ensures.reports _ _ _ _ _ _ _ held.kept) _ c.in-Clean.is

pub write-requires-in-Faulty : goal.write-requires-in-Faulty
write-requires-in-Faulty c =
    let held = c.requires.held in
    faulty_tells held _ _ _ (c.report.ensures.reports _ _ _ _ _ _ _ held.kept) _ c.in-Faulty.is
