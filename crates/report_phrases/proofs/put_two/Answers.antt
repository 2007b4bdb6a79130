-- `report_phrases::put_two` stores two counts, each behind its words.
use mathlib.Core.Path.{◌≡◌, sym}
use mathlib.Core.List.{List, ◌++◌, append_assoc}
use Prim.Native.Nat.{ℕ}
use Rattle.units.specs.declared.BitPeriods.{BitPeriods}
use Rattle.report_phrases.specs.Phrases.{in_both, two_counts}
use Rattle.text.proofs.Writing.{wrote_then}
use Rattle.report_phrases.proofs.put_two.Goals as goal

-- the two pieces that the code stores
pieces : (p : List ℕ) (a : BitPeriods) (q : List ℕ) (b : BitPeriods) → two_counts p a q b ≡ (p ++ in_both a) ++ (q ++ in_both b)
unfolding two_counts
pieces p a q b = sym (append_assoc p (in_both a) (q ++ in_both b))

pub returns : goal.returns
returns c = rw pieces (wrote_then c.put_both-next.ensures c.put_both.ensures)
