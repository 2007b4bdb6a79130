-- `tally_all` meets its contract. The invariant: the first j streams are counted.
use Rattle.pnet_urgent_table.proofs.Blocks.{Going}
use Rattle.pnet_urgent_table.proofs.tally_all.Given as goal

abbrev pub invariant-loop-j : goal.invariant-loop-j
invariant-loop-j l = Going l.turn l.spacings l.jitters l.k l.a l.initial.nexts l.initial.rests l.j l.nexts l.rests l.table
