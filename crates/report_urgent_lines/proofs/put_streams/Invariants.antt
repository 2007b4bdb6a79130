-- `report_urgent_lines::put_streams` stores the lines of n streams. The loop's invariant: the first i are stored.
use Prim.Native.Nat.{◌*◌, ◌≤◌}
use lib.ListN.{length}
use Rattle.text.specs.Text.{item, texts, Wrote}
use Rattle.report_urgent_lines.specs.Lines.{most_line, stream_at}
use Rattle.report_urgent_lines.proofs.put_streams.Given as goal

abbrev pub invariant-loop-i : goal.invariant-loop-i
invariant-loop-i l =
    let lines = texts (stream_at (item l.masters) (item l.places) (item l.figures) (item l.rounds) (item l.deadlines)) l.i in
    Wrote l.initial.out l.at lines l.out l.next × (length lines ≤ l.i * most_line)
