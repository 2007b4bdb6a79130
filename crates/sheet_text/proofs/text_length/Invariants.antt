-- `sheet_text::text_length` meets its contract. The loop's invariant is `Counted`: so many bytes has the text of the records so far. The measure is what is
-- left of the sheet.
use Prim.Native.Nat.{◌-◌}
use mathlib.Core.Path.{◌≡◌}
use lib.ListN.{length}
use Rattle.sheet_text.proofs.Passed.{Counted}
use Rattle.sheet_text.proofs.text_length.Given as goal

abbrev pub invariant-loop-at : goal.invariant-loop-at
invariant-loop-at l = Counted l.s l.at l.n × (96 ≡ length l.line)

abbrev pub decreases-loop-at : goal.decreases-loop-at
decreases-loop-at l = length l.s - l.at
