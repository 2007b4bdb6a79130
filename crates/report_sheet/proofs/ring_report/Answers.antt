-- `report_sheet::ring_report` stores the report of a PROFIBUS plan.
use mathlib.Core.Path.{refl}
use mathlib.Core.Bool.{true}
use Rattle.report_sheet.specs.Whole.{ring_report, ring_accepts}
use Rattle.report_sheet.proofs.Stored.{reports}
use Rattle.report_sheet.proofs.ring_report.Goals as goal

pub returns-in-Ok : goal.returns-in-Ok
unfolding ring_report ring_accepts
returns-in-Ok c = rw (← c.plan.ensures, c.in-Ok.is) (reports true refl refl c.put_ring.ensures)

pub returns-in-Err : goal.returns-in-Err
unfolding ring_report ring_accepts
returns-in-Err c = rw (← c.plan.ensures, c.in-Err.is) c.refuse.ensures
