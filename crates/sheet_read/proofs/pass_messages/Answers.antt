use mathlib.Core.Path.{◌≡◌, refl, sym, ap, ◌∙◌}
use Prim.Native.Nat.{suc, ◌≤◌}
use native.Mathlib.Omega.{arith}
use borrow.Author.Tests.{eqb-true, eqb-false}
use Rattle.sheet_read.proofs.Begins.{gives_first, MeetsSetting, meets_message, refused_setting, setting_later, setting_inside, of_master, refused_again, gives_next, ring_masters, opened_messages}
use Rattle.std.specs.Prelude.{ℕ, true, not, eqb, Err}
use Rattle.std.proofs.lemmas.Result.{err_from_is_err_and}
use Rattle.common.proofs.Answered.{unless_no_ok, unless_no_err}
use Rattle.sheet_record.specs.Kinds.{known}
use Rattle.sheet_judge.specs.Own.{own_no}
use Rattle.sheet_read.proofs.pass_messages.Goals as goal
use Rattle.sheet_read.proofs.pass_messages.Goals.{After-judge}

pub loop-given-init : goal.loop-given-init
loop-given-init c = let p = c.requires in gives_first p.begun p.kind_value p.messages_value refl

-- the refusal of the message that is met, by itself
abbrev own : After-judge → ℕ
own c = own_no (known 10) true (not (eqb c.record_of-met.result.next c.loop-given.at)) c.in_range_of-ranged.result

-- what is met behind the longest messages so far
meets : (c : After-judge)
    → MeetsSetting c.args.s.now (suc c.loop-given.invariant.i) c.loop-given.at 10 (record { masters = c.args.head.a; message = 0 })
    c.record_of-met.result c.in_range_of-ranged.result (own c)
meets c =
    meets_message c.loop-given.invariant.giving
    (eqb-true _ 10 (sym c.stands.ensures ∙ c.loop-given-test.true))
    c.record_of-met.ensures c.in_range_of-ranged.ensures refl

pub returns-in_err-judge : goal.returns-in_err-judge
returns-in_err-judge c =
    let m = meets (goal.at.returns-in_err-judge c).After-judge in
    let e = unless_no_err _ _ (sym c.judge.ensures ∙ c.in_err-judge.was) in
    let p = err_from_is_err_and c.from_residual.result c.from_residual.ensures.1 in
    rw (p.1, p.2) (ap Err e.1 ∙ refused_setting m e.0)

-- the master of the message is one that has a place
its-master : (c : After-judge) → own c ≡ 0
    → (1 ≤ c.record_of-met.result.found.a) × (c.record_of-met.result.found.a ≤ 32) × (1 ≤ c.record_of-met.result.found.b)
its-master c e = of_master c.loop-given.invariant.giving (meets c) e

pub offset_bounds-messages-master : goal.offset_bounds-messages-master
offset_bounds-messages-master c = omega (arith, (its-master (goal.at.offset_bounds-messages-master c).After-judge (unless_no_ok _ _ (sym c.judge.ensures ∙ c.in_ok-judge.was))).1)

pub bounds-messages-master : goal.bounds-messages-master
bounds-messages-master c = omega (arith, (its-master (goal.at.bounds-messages-master c).After-judge (unless_no_ok _ _ (sym c.judge.ensures ∙ c.in_ok-judge.was))).1)

pub returns-then-messages-master-ne0 : goal.returns-then-messages-master-ne0
returns-then-messages-master-ne0 c =
    let m = meets (goal.at.returns-then-messages-master-ne0 c).After-judge in
    refused_again c.loop-given.invariant.giving m (unless_no_ok _ _ (sym c.judge.ensures ∙ c.in_ok-judge.was)) c.if-messages-master-ne0.true

pub offset_bounds-messages-master-in-loop-given : goal.offset_bounds-messages-master-in-loop-given
offset_bounds-messages-master-in-loop-given c =
    omega (arith, (its-master (goal.at.offset_bounds-messages-master-in-loop-given c).After-judge (unless_no_ok _ _ (sym c.judge.ensures ∙ c.in_ok-judge.was))).1)

pub bounds-messages-master-in-loop-given : goal.bounds-messages-master-in-loop-given
bounds-messages-master-in-loop-given c = omega (arith, (its-master (goal.at.bounds-messages-master-in-loop-given c).After-judge (unless_no_ok _ _ (sym c.judge.ensures ∙ c.in_ok-judge.was))).1)

pub loop-given-smaller : goal.loop-given-smaller
loop-given-smaller c =
    let m = meets (goal.at.loop-given-smaller c).After-judge in
    omega (arith, setting_later m (unless_no_ok _ _ (sym c.judge.ensures ∙ c.in_ok-judge.was)), setting_inside m (unless_no_ok _ _ (sym c.judge.ensures ∙ c.in_ok-judge.was)))

pub loop-given-preserved : goal.loop-given-preserved
loop-given-preserved c =
    let m = meets (goal.at.loop-given-preserved c).After-judge in
    record {
      i = suc c.loop-given.invariant.i;
      giving = gives_next c.loop-given.invariant.giving m (unless_no_ok _ _ (sym c.judge.ensures ∙ c.in_ok-judge.was)) c.if-messages-master-ne0.false;
    }

pub lacks-lacks-requires : goal.lacks-lacks-requires
lacks-lacks-requires c = omega (arith, ring_masters c.loop-given.invariant.giving)

pub returns : goal.returns
returns c =
    opened_messages c.loop-given.invariant.giving (eqb-false _ 10 (sym c.stands.ensures ∙ c.loop-given-test.false)) _ _ c.count_missing.ensures c.lacks-lacks.ensures
