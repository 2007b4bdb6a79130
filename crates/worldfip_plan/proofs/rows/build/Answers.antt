use mathlib.Core.Path.{refl, ◌∙◌}
use native.Mathlib.Omega.{arith}
use borrow.Author.Count.{below_none, below_more}
use lib.ListN.{length-set}
use Rattle.worldfip_rules.specs.Build as build
use Rattle.worldfip_rules.specs.Build.{by_rank, row}
use Rattle.worldfip_plan.specs.Held.{requests, given}
use Rattle.worldfip_plan.proofs.Turns.{requests_new}
use Rattle.worldfip_plan.proofs.Builds.{late_is, miss_yes, miss_no, row_is, pending_more, missing_here, missing_nowhere, rows_more, requests_less}
use Rattle.worldfip_plan.proofs.rows.build.Goals as goal

pub loop-m-init : goal.loop-m-init
unfolding build.pending
loop-m-init c = (refl, refl, below_none _, below_none _, λ j lo hi. c.mark_all.ensures j hi)

pub returns-then-late-ne0 : goal.returns-then-late-ne0
unfolding given
returns-then-late-ne0 c =
    let s = c in
    let l = c.loop-m in
    let a = given s.args.q.now s.args.n s.args.s s.args.rows in
    let e = (l.invariant.4 l.m (omega arith) (omega arith) ∙ requests_new s.args.q.now s.args.n s.args.s s.args.rows l.m) in
    record {
      value = missing_here a l.m l.invariant.2 (omega arith) (miss_yes a s.requires.usable.few l.m l.pending _ l.invariant.1 e c.if-late-ne0.true) _ (late_is a s.requires.usable.few l.m l.pending _ l.invariant.1 e);
      m_after = λ z. absurd (c.if-late-ne0.true z);
    }

pub loop-m-preserved : goal.loop-m-preserved
unfolding given
loop-m-preserved c =
    let s = c in
    let l = c.loop-m in
    let k = c.mark_all.auto.t in
    let a = given s.args.q.now s.args.n s.args.s s.args.rows in
    let e = (l.invariant.4 l.m (omega arith) (omega arith) ∙ requests_new s.args.q.now s.args.n s.args.s s.args.rows l.m) in
    let y = c.row_of-served.result in
    let r = row_is a s.requires.usable.few l.m l.pending _ l.invariant.1 e y c.row_of-served.ensures in (
      simp length-set l.invariant.0,
      pending_more a s.requires.usable.few l.m l.pending _ l.invariant.1 e y c.row_of-served.ensures,
      below_more _ _ l.invariant.2 (miss_no a s.requires.usable.few l.m l.pending _ l.invariant.1 e c.if-late-ne0.false),
      rows_more (row a by_rank) (requests s.args.q.now s.args.n) l.t l.m s.args.rows y (omega (arith, s.requires.cleared, k)) r l.invariant.3,
      requests_less (row a by_rank) (requests s.args.q.now s.args.n) l.t l.m s.args.rows y (omega (arith, s.requires.cleared, k)) r l.invariant.4,
    )

pub returns : goal.returns
unfolding given
returns c =
    let s = c in
    let l = c.loop-m in
    let a = given s.args.q.now s.args.n s.args.s s.args.rows in
    record { value = missing_nowhere a l.m l.invariant.2 (omega arith); m_after = λ z k h. l.invariant.3 k (omega arith) }
