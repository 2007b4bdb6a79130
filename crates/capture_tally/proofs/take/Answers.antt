-- `capture_tally::take` meets its contract.
use Rattle.std.proofs.Common.{sym, ◌∙◌}
use Rattle.capture_tally.proofs.Answers.{keeps, takes_all}
use Rattle.capture_tally.proofs.take.Goals as goal

-- the piece is refused: each run is put back
pub returns-then-is_err : goal.returns-then-is_err
returns-then-is_err c =
    let t = c.take_each-taken.ensures.0 in
    let no = sym c.is_err.ensures.value ∙ c.if-is_err.true in
    let put = keeps _ _ t no in
    (t, put _ _, put _ _, put _ _, put _ _, put _ _)

-- all of it is taken
pub returns-else-is_err : goal.returns-else-is_err
returns-else-is_err c =
    let t = c.take_each-taken.ensures in
    let all = takes_all c.take_each-taken.result (sym c.is_err.ensures.value ∙ c.if-is_err.false) in
    (t.0, rw (← t.0, all) (t.1 all), rw (← t.0, all) (t.2 all), rw (← t.0, all) (t.3 all), rw (← t.0, all) (t.4 all), rw (← t.0, all) (t.5 all))
