-- `report_faults::put_last` stores the last lines.
use mathlib.Core.Path.{sym, ◌∙◌}
use Rattle.report_faults.specs.Faults.{last_lines}
use Rattle.report_faults.proofs.put_last.Goals as goal

pub returns-then-is_clean : goal.returns-then-is_clean
unfolding last_lines
returns-then-is_clean c = simp (sym c.is_clean.ensures ∙ c.if-is_clean.true) c.put_word.ensures

pub returns : goal.returns
unfolding last_lines
returns c =
    simp (sym c.is_clean.ensures ∙ c.if-is_clean.false)
    (rw (← c.shown-n.ensures) c.put_faults.ensures)
