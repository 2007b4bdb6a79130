use mathlib.Core.Path.{refl}
use native.Mathlib.Omega.{arith}
use lib.ListN.{length}
use borrow.Author.Count.{below_more}
use Rattle.common.proofs.Firsts.{found_first, found_none}
use Rattle.pnet_simulate.specs.Simulated.{waits, oldest_of}
use Rattle.pnet_simulate.proofs.Waits.{waits_at, waits_elsewhere, waits_no_more}
use Rattle.pnet_simulate.proofs.oldest.Goals as goal
use Rattle.pnet_simulate.proofs.oldest.Goals.{else-owner-p-via-else-owner-p, else-owner-p-via-then-owner-p+else-answered-p-eq0}

pub returns-then-answered-p-eq0 : goal.returns-then-answered-p-eq0
unfolding oldest_of
returns-then-answered-p-eq0 c =
    let a = c.args in
    let l = c.loop-p in
    found_first (waits a.owner.now a.answered.now a.m) (length a.owner.now) l.p l.invariant
    (waits_at a.owner.now a.answered.now a.m l.p c.if-owner-p.true c.if-answered-p-eq0.true) (omega arith)

pub loop-p-preserved : goal.loop-p-preserved
loop-p-preserved c =
    let a = c.args in
    let l = c.loop-p in
    below_more _ _ l.invariant (elim c.else-owner-p.branch [
      | else-owner-p-via-then-owner-p+else-answered-p-eq0 w ↦ waits_no_more a.owner.now a.answered.now a.m l.p w.if-owner-p.true w.if-answered-p-eq0.false
      | else-owner-p-via-else-owner-p w ↦ waits_elsewhere a.owner.now a.answered.now a.m l.p w.if-owner-p.false
    ])

pub returns : goal.returns
unfolding oldest_of
returns c =
    let a = c.args in
    let l = c.loop-p in
    found_none (waits a.owner.now a.answered.now a.m) (length a.owner.now) (length a.owner.now) (λ j h. l.invariant j (omega arith)) refl
