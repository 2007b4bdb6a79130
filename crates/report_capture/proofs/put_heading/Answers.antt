-- `report_capture::put_heading` stores the heading.
use Rattle.report_capture.specs.Shown.{heading}
use Rattle.report_capture.proofs.put_heading.Goals as goal

pub returns-then-urgent : goal.returns-then-urgent
unfolding heading
returns-then-urgent c = simp c.if-urgent.true c.put_word.ensures

pub returns : goal.returns
unfolding heading
returns c = simp c.if-urgent.false c.put_word-2.ensures
