-- `report_beside::lay` asks the planner of the rule.
use Rattle.report_beside.proofs.lay.Goals as goal

pub returns-then-urgent : goal.returns-then-urgent
returns-then-urgent c =
    let e = c.if-urgent.true in
    let f = c.figures.ensures in
    record {
      value = simp e f.value;
      masters_after = simp e f.masters_after;
      bound_after = simp e f.figure_after;
      spacing_after = simp e f.spacing_after;
      jitter_after = simp e f.jitter_after;
    }

pub returns : goal.returns
returns c =
    let e = c.if-urgent.false in
    let f = c.bounds.ensures in
    record {
      value = simp e f.value;
      masters_after = simp e f.masters_after;
      bound_after = simp e f.bound_after;
      spacing_after = simp e f.spacing_after;
      jitter_after = simp e f.jitter_after;
    }
