-- `sheet_read::pass_edition` meets its contract.
use Rattle.std.specs.Prelude.{true, not, eqb, Err}
use mathlib.Core.Path.{refl, ap, sym, ◌∙◌}
use Rattle.std.proofs.lemmas.Result.{err_from_is_err_and}
use Rattle.common.proofs.Answered.{unless_no_ok, unless_no_err}
use Rattle.sheet_record.specs.Kinds.{known}
use Rattle.sheet_judge.specs.Own.{own_no}
use Rattle.sheet_read.proofs.Begins.{MeetsSetting, meets_edition, refused_setting, opened_behind}
use Rattle.sheet_read.proofs.pass_edition.Goals as goal
use Rattle.sheet_read.proofs.pass_edition.Goals.{After-judge}

-- what is met behind the first record
meets : (c : After-judge)
    → MeetsSetting c.args.s.now 1 c.args.first 8 (record { masters = c.args.head.a; message = c.args.head.c })
    c.record_of-met.result c.in_range_of-ranged.result
    (own_no (known 8) true (not (eqb c.record_of-met.result.next c.args.first)) c.in_range_of-ranged.result)
meets c =
    let p = c.requires in
    meets_edition p.begun p.kind_value.0 p.kind_value.1 c.record_of-met.ensures c.in_range_of-ranged.ensures refl

pub returns-in_err-judge : goal.returns-in_err-judge
returns-in_err-judge c =
    let m = meets (goal.at.returns-in_err-judge c).After-judge in
    let e = unless_no_err _ _ (sym c.judge.ensures ∙ c.in_err-judge.was) in
    let p = err_from_is_err_and c.from_residual.result c.from_residual.ensures.1 in
    rw (p.1, p.2) (ap Err e.1 ∙ refused_setting m e.0)

pub returns : goal.returns
returns c =
    let p = c.requires in
    opened_behind p.begun p.kind_value.0 (meets (goal.at.returns c).After-judge) (unless_no_ok _ _ (sym c.judge.ensures ∙ c.in_ok-judge.was))
