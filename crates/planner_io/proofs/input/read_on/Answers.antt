-- `planner_io::input::read_on` takes one piece after the other. Assumes nothing.
use Rattle.std.proofs.Common.{rules}
use Rattle.planner_io.proofs.Made.{further_more}
use Rattle.planner_io.proofs.input.read_on.Goals as goal

pub returns-then-taken-clause-by_index : goal.returns-then-taken-clause-by_index
returns-then-taken-clause-by_index c = λ first k. c.told.ensures.by_index first (c.loop.invariant.3.took first k)

pub returns-then-end-piece-clause-by_index : goal.returns-then-end-piece-clause-by_index
returns-then-end-piece-clause-by_index c =
    let took = c.take-taken.ensures in
    λ first k.
    c.told-then-end-piece.ensures.by_index first
    ((further_more _ c.loop.invariant.3 (took.value, (took.front_after, took.sheet_after))).took first k)

pub loop-preserved : goal.loop-preserved
loop-preserved c =
    let took = c.take-taken.ensures in
    (search rules, search rules, search rules, further_more _ c.loop.invariant.3 (took.value, (took.front_after, took.sheet_after)))
