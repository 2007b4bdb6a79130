-- `planner_io::input::told` says what the text came to: a line that is not of the form, or the sheet that is kept. Assumes nothing.
use Rattle.std.proofs.Common.{sym, ◌∙◌}
use Rattle.planner_io.proofs.Made.{took_bad, took_sheet}
use Rattle.planner_io.proofs.input.told.Goals as goal

pub returns-in-Err-clause-by_index : goal.returns-in-Err-clause-by_index
returns-in-Err-clause-by_index c = λ first k. took_bad k (sym c.end.ensures ∙ c.in-Err.is)

pub returns-in-Ok-clause-by_index : goal.returns-in-Ok-clause-by_index
returns-in-Ok-clause-by_index c = λ first k. took_sheet k _ _ (sym c.end.ensures ∙ c.in-Ok.is) c.min-length.ensures
