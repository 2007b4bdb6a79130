-- `report_lines::put_ring` stores the two lines of a ring.
use mathlib.Core.List.{◌++◌}
use mathlib.Core.Path.{◌≡◌}
use Prim.Native.Nat.{ℕ}
use Rattle.report_lines.specs.Lines.{ring_text}
use Rattle.units.specs.declared.RingPeriods.{RingPeriods}
use Rattle.text.specs.Text.{word, counted}
use Rattle.text.proofs.Writing.{wrote_then, counted_then}
use Rattle.report_lines.proofs.put_ring.Goals as goal

-- the two pieces that the code stores
pieces : (r : RingPeriods) (i : ℕ) → ring_text r i ≡ counted (word "PROFIBUS ring\nTTR ") r.0 (word " bp") ++ counted (word " limited by stream ") i (word "\n")
unfolding ring_text counted
pieces r i = counted_then (word "PROFIBUS ring\nTTR ") r.0 (word " bp") (counted (word " limited by stream ") i (word "\n"))

pub returns : goal.returns
returns c = rw pieces (wrote_then c.put_counted-next.ensures c.put_counted.ensures)
