-- `worldfip_plan::fill` meets its contract: the number of the best-ranked variable that misses first, or the rows.
use mathlib.Core.Path.{◌∙◌}
use Prim.Native.Nat.{◌<◌}
use native.Mathlib.Omega.{arith}
use Rattle.common.proofs.Runs.{filled_same}
use Rattle.worldfip_rules.specs.Table.{Asked}
use Rattle.worldfip_rules.specs.Build.{by_rank, row}
use Rattle.worldfip_plan.specs.Held.{given}
use Rattle.worldfip_plan.proofs.Tied.{best_within, missed_one, missed_none}
use Rattle.worldfip_plan.proofs.fill.Goals as goal
use Rattle.worldfip_plan.proofs.fill.Goals.{After-first_of-r, Start}

abbrev asked : Start → Asked
asked c = given c.args.q.now c.args.n c.args.s c.args.rows

-- the best rank of those who miss is a rank
best : (c : After-first_of-r) → c.first_of-r.result < c.args.n
unfolding given
best c =
    let s = c.args in
    best_within (given s.q.now s.n s.s s.rows) c.build-late.ensures.value c.requires.usable.0.few c.if-late-ne0.true c.first_of-r.result c.first_of-r.ensures.0

pub bounds-v-r : goal.bounds-v-r
bounds-v-r c =
    let p = c.requires.usable in
    omega (arith, best (goal.at.bounds-v-r c).After-first_of-r, p.0.few, p.1.long)

pub overflow_add-result : goal.overflow_add-result
overflow_add-result c =
    let p = c.requires.usable in
    omega (arith, p.1.below c.first_of-r.result (best (goal.at.overflow_add-result c).After-first_of-r), p.0.few)

pub returns-then-late-ne0 : goal.returns-then-late-ne0
returns-then-late-ne0 c =
    let m = missed_one (asked (goal.at.returns-then-late-ne0 c).Start) c.build-late.ensures.value c.args.v.now c.args.out.now c.first_of-r.result c.if-late-ne0.true c.first_of-r.ensures.0 in
    record { value = m.0; out_after = m.1 }

pub returns : goal.returns
unfolding given
returns c =
    let A = asked (goal.at.returns c).Start in
    let b = c.build-late.ensures in
    let none = c.if-late-ne0.false in
    let m = missed_none A b.value c.args.v.now c.args.out.now _ none (c.copy.ensures ∙ filled_same _ (row A by_rank) _ c.args.out.now (b.m_after none)) in
    record { value = m.0; out_after = m.1 }
