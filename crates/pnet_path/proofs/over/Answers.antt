-- `pnet_path::over` meets its contract: behind a refused sheet nothing, and else what `bound_of` says of the sheet.
use mathlib.Core.Path.{sym, ◌∙◌}
use Rattle.pnet_path.proofs.Laws.{over_stays, over_told}
use Rattle.pnet_path.proofs.over.Goals as goal

pub returns-then-is_some : goal.returns-then-is_some
returns-then-is_some c =
    let a = c.args in
    sym (over_stays a.way a.forwarding.0 a.s.now a.master (sym c.is_some.ensures ∙ c.if-is_some.true))

pub returns-in-Ok : goal.returns-in-Ok
returns-in-Ok c =
    let a = c.args in
    over_told a.way a.forwarding.0 a.s.now a.master (sym c.is_some.ensures ∙ c.if-is_some.false) _ (sym c.in-Ok.is ∙ c.bound_of.ensures)
    c.further.result c.further.ensures

pub returns-in-Err : goal.returns-in-Err
returns-in-Err c =
    let a = c.args in
    over_told a.way a.forwarding.0 a.s.now a.master (sym c.is_some.ensures ∙ c.if-is_some.false) _ (sym c.in-Err.is ∙ c.bound_of.ensures)
    c.stopped.result c.stopped.ensures
