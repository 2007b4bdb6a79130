-- `sheet_ranges::in_range` meets its contract: a record is of its own kind.
use mathlib.Core.Path.{refl, ◌∙◌}
use Rattle.sheet_ranges.proofs.Ranges.{of_kind}
use Rattle.sheet_ranges.proofs.in_range.Goals as goal

pub returns : goal.returns
returns c = c.in_range_of.ensures ∙ of_kind c.args.r.kind c.args.r.kind _ refl
