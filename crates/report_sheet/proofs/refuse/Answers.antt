-- `report_sheet::refuse` stores a refusal, and answers that the sheet is refused.
use mathlib.Core.Path.{refl}
use mathlib.Core.Bool.{false}
use Rattle.report_sheet.proofs.Stored.{reports}
use Rattle.report_sheet.proofs.refuse.Goals as goal

pub returns : goal.returns
returns c = reports false refl refl c.put_refusal.ensures
