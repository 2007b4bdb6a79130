-- `planner_io::input::read_on` takes one piece after the other. The invariant: what is at hand is what the pieces so far leave. Assumes nothing.
use Rattle.std.proofs.Common.{◌≡◌, length}
use Rattle.sheet_pieces.proofs.Stepped.{state}
use Rattle.planner_io.proofs.Made.{Further}
use Rattle.planner_io.proofs.input.read_on.Given as goal

abbrev pub invariant-loop : goal.invariant-loop
invariant-loop l =
    (length l.piece ≡ length l.initial.piece) × (length l.front ≡ length l.initial.front) × (length l.sheet ≡ length l.initial.sheet) × Further (state l.initial.taken l.initial.front l.initial.sheet) (state l.taken l.front l.sheet)
