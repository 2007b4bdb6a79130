-- `planner_io::input::read_sheet` takes for a text what begins as one, and what is asked for as one. Assumes nothing.
use Rattle.std.proofs.Common.{refl}
use Rattle.planner_io.specs.Made.GivenAs.{as_bytes, as_a_text}
use Rattle.planner_io.proofs.Made.{taken_for}
use Rattle.planner_io.proofs.input.read_sheet.Goals as goal

pub returns-then-as_text-kind-clause-given_as : goal.returns-then-as_text-kind-clause-given_as
returns-then-as_text-kind-clause-given_as c =
    as_a_text _ (taken_for c.args.as_text _ _ c.kind_in-kind.ensures c.if-as_text-kind.true) c.read_text.ensures.made

pub returns-clause-given_as : goal.returns-clause-given_as
returns-clause-given_as c =
    as_bytes _ refl (taken_for c.args.as_text _ _ c.kind_in-kind.ensures c.if-as_text-kind.false)
