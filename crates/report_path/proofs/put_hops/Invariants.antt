-- `report_path::put_hops` stores the lines of n gateways, each with the segment behind it. The loop's invariant: the first i are stored.
use Rattle.text.specs.Text.{item, texts, Wrote}
use Rattle.report_path.specs.Kept.{count_at}
use Rattle.report_path.specs.Told.{hop_lines}
use Rattle.report_path.proofs.put_hops.Given as goal

abbrev pub invariant-loop-i : goal.invariant-loop-i
invariant-loop-i l =
    Wrote l.initial.out l.at (texts (hop_lines (item l.masters) (count_at l.bounds) (count_at l.times)) l.i) l.out l.next
