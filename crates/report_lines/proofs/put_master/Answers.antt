-- `report_lines::put_master` stores a master's line, and nothing for a master without streams.
use borrow.Author.Tests.{eq-eqb, ne_eqb}
use Rattle.report_lines.specs.Lines.{master_text}
use Rattle.text.proofs.Writing.{wrote_none}
use Rattle.report_lines.proofs.put_master.Goals as goal

pub returns-then-bound-eq0 : goal.returns-then-bound-eq0
unfolding master_text
returns-then-bound-eq0 c = simp (eq-eqb _ 0 c.if-bound-eq0.true) wrote_none

pub returns : goal.returns
unfolding master_text
returns c = simp (ne_eqb _ 0 c.if-bound-eq0.false) c.put_line.ensures
