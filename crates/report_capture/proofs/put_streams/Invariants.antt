-- `report_capture::put_streams` stores the lines of n streams. The loop's invariant: the first i are stored.
use Prim.Native.Nat.{◌*◌, ◌≤◌}
use lib.ListN.{length}
use Rattle.text.specs.Text.{item, texts, Wrote}
use Rattle.report_capture.specs.Shown.{most_line, stream_at}
use Rattle.report_capture.proofs.put_streams.Given as goal

abbrev pub invariant-loop-i : goal.invariant-loop-i
invariant-loop-i l =
    let lines = texts (stream_at (item l.masters) (item l.bound) (item l.largest) (item l.answers) (item l.above) (item l.left)) l.i in
    Wrote l.initial.out l.at lines l.out l.next × (length lines ≤ l.i * most_line)
