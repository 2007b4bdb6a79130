-- `report_urgent_lines::put_first_late` stores the line of the first stream that first-come queues refuse, if there is one.
use mathlib.Core.List.{[]}
use mathlib.Core.Path.{◌≡◌}
use Prim.Native.Nat.{ℕ, ◌-◌, ◌≤◌, ◌<◌}
use native.Mathlib.Omega.{arith}
use borrow.Author.Tests.{le-leb, lt-leb}
use Rattle.units.specs.Units.{bp}
use Rattle.units.specs.declared.BitPeriods.{BitPeriods}
use Rattle.text.proofs.Writing.{wrote_none}
use Rattle.report_urgent_lines.specs.Lines.{late_line, late_text}
use Rattle.report_urgent_lines.proofs.put_first_late.Goals as goal

-- which of the two it is
module _ (figures deadlines : ℕ → ℕ) (late : ℕ) (bound : BitPeriods) (n : ℕ) where
  none : n < late → late_text figures deadlines late bound n ≡ []
  unfolding late_text
  none l = simp (lt-leb late n l)

  some : late ≤ n → late_text figures deadlines late bound n ≡ late_line late bound (bp (figures (late - 1))) (bp (deadlines (late - 1)))
  unfolding late_text
  some l = simp (le-leb late n l)

pub returns-then-n-late : goal.returns-then-n-late
returns-then-n-late c =
    let a = c.args in
    rw (none _ _ a.late _ a.n (omega (arith, c.if-n-late.true))) (wrote_none, omega arith)

pub returns : goal.returns
returns c =
    let a = c.args in
    rw (some _ _ a.late _ a.n (omega (arith, c.if-n-late.false)), ← c.saturating_sub-i.ensures) c.put_late.ensures
