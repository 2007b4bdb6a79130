-- `sheet_ranges::fits_behind` meets its contract: two differences that are cut off at 0.
use mathlib.Core.Bool.{and_assoc}
use native.Mathlib.Omega.{arith}
use borrow.Author.Tests.{le-leb}
use Rattle.sheet_record.specs.Kinds.{within}
use Rattle.sheet_ranges.proofs.fits_behind.Goals as goal

pub returns : goal.returns
unfolding within
returns c =
    rw (c.saturating_sub.ensures, c.saturating_sub-2.ensures, le-leb 0 c.args.j (omega arith)) (simp (and_assoc))
