-- `report_phrases::put_both` stores a count in bp and in ns.
use mathlib.Core.Path.{◌≡◌, sym}
use mathlib.Core.List.{List, ◌++◌, append_assoc}
use Prim.Native.Nat.{ℕ}
use Rattle.units.specs.Units.{nanos_up}
use Rattle.units.specs.declared.BitPeriods.{BitPeriods}
use Rattle.text.specs.Text.{word}
use Rattle.report_phrases.specs.Phrases.{in_bp, in_ns, in_both}
use Rattle.text.proofs.Writing.{wrote_then}
use Rattle.report_phrases.proofs.put_both.Goals as goal

-- the two pieces that the code stores
pieces : (p : List ℕ) (b : BitPeriods) → p ++ in_both b ≡ (p ++ in_bp b) ++ (word " " ++ in_ns (nanos_up b))
unfolding in_both
pieces p b = sym (append_assoc p (in_bp b) (word " " ++ in_ns (nanos_up b)))

pub returns : goal.returns
returns c = rw (pieces, ← c.nanos_up.ensures) (wrote_then c.put_bp-next.ensures c.put_ns.ensures)
