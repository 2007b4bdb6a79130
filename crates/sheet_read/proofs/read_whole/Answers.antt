-- `sheet_read::read_whole` meets its contract: the first record by itself, and what stands behind it by `read_behind`.
use Rattle.std.specs.Prelude.{get_or, not, eqb, Err}
use mathlib.Core.Path.{refl, sym, ap, ◌∙◌}
use native.Mathlib.Omega.{arith}
use Rattle.std.proofs.lemmas.Result.{err_from_is_err_and}
use Rattle.common.proofs.Answered.{unless_no_ok, unless_no_err}
use Rattle.sheet_record.specs.Kinds.{known}
use Rattle.sheet_judge.specs.Own.{own_no}
use Rattle.sheet_read.proofs.Begins.{told_empty, MeetsFirst, refused_first, begun_first}
use Rattle.sheet_read.proofs.Behind.{refused_keeps}
use Rattle.sheet_read.proofs.read_whole.Goals as goal
use Rattle.sheet_read.proofs.read_whole.Goals.{After-judge}

pub returns-then-s-eq0 : goal.returns-then-s-eq0
returns-then-s-eq0 c =
    let a = c.args in
    let e = told_empty a.s.now c.if-s-eq0.true in
    let k = refused_keeps a.s.now _ _ a.counts.now a.longests.now a.messages.now e in
    record { value = e; counts_after = k.0; longests_after = k.1.0; messages_after = k.1.1 }

-- what is met first
meets : (c : After-judge)
    → MeetsFirst c.args.s.now c.record_at-met.result
    c.in_range-ranged.result c.is_first-right.result
    (own_no (known (get_or c.args.s.now 0 0)) c.is_first-right.result (not (eqb c.record_at-met.result.next 0)) c.in_range-ranged.result)
meets c =
    record {
      some = omega arith;
      is_met = c.record_at-met.ensures;
      is_right = c.is_first-right.ensures;
      is_ranged = c.in_range-ranged.ensures;
      is_own = refl;
    }

pub returns-in_err-judge : goal.returns-in_err-judge
returns-in_err-judge c =
    let a = c.args in
    let f = unless_no_err _ _ (sym c.judge.ensures ∙ c.in_err-judge.was) in
    let e = ap Err f.1 ∙ refused_first (meets (goal.at.returns-in_err-judge c).After-judge) f.0 in
    let k = refused_keeps a.s.now _ _ a.counts.now a.longests.now a.messages.now e in
    let p = err_from_is_err_and c.from_residual.result c.from_residual.ensures.1 in
    rw (p.1, p.2) (record { value = e; counts_after = k.0; longests_after = k.1.0; messages_after = k.1.1 })

pub read_behind-requires : goal.read_behind-requires
read_behind-requires c = begun_first (meets (goal.at.read_behind-requires c).After-judge) (unless_no_ok _ _ (sym c.judge.ensures ∙ c.in_ok-judge.was))
