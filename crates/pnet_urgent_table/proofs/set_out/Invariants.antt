-- `set_out` meets its contract. The invariant: the first j streams are set out.
use mathlib.Core.Path.{◌≡◌}
use lib.ListN.{length}
use Rattle.pnet_urgent_table.specs.Table.{Due}
use Rattle.pnet_urgent_table.proofs.set_out.Given as goal

abbrev pub invariant-loop-j : goal.invariant-loop-j
invariant-loop-j l =
    (length l.nexts ≡ length l.initial.nexts) × (length l.rests ≡ length l.initial.rests) × Due l.turn l.spacings l.jitters l.j 0 l.nexts l.rests
