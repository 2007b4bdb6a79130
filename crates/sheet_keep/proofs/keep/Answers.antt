-- `sheet_keep::keep` meets its contract: a stream that passed has its place in the arrays.
use native.Mathlib.Omega.{arith}
use borrow.Author.Tests.{eq-eqb, ne_eqb}
use Rattle.sheet_keep.specs.Steps.{counts_with, longests_with, ids_with}
use Rattle.sheet_keep.proofs.Late.{not_late_variable, not_late_stream}
use Rattle.sheet_keep.proofs.keep.Goals as goal

pub offset_bounds-ids-n : goal.offset_bounds-ids-n
offset_bounds-ids-n c =
    let a = c.args in
    omega (arith, not_late_variable a.counts.now a.ids.now a.n a.r c.if-r-eq6.true c.requires.r_value)

pub bounds-ids-n : goal.bounds-ids-n
bounds-ids-n c =
    let a = c.args in
    not_late_variable a.counts.now a.ids.now a.n a.r c.if-r-eq6.true c.requires.r_value

pub bounds-counts-master : goal.bounds-counts-master
bounds-counts-master c = omega (arith, c.requires.a_bound c.if-r-eq6.false)

pub overflow_add-counts : goal.overflow_add-counts
overflow_add-counts c =
    let a = c.args in
    omega (arith, not_late_stream a.counts.now a.ids.now a.n a.r c.if-r-eq6.false c.requires.r_value)

pub bounds-counts-master-else-r-eq6 : goal.bounds-counts-master-else-r-eq6
bounds-counts-master-else-r-eq6 c = omega (arith, c.requires.a_bound c.if-r-eq6.false)

pub bounds-longests-master : goal.bounds-longests-master
bounds-longests-master c = omega (arith, c.requires.a_bound c.if-r-eq6.false)

pub bounds-longests-master-else-r-eq6 : goal.bounds-longests-master-else-r-eq6
bounds-longests-master-else-r-eq6 c =
    omega (arith, c.requires.a_bound c.if-r-eq6.false)

pub returns-then-r-eq6 : goal.returns-then-r-eq6
unfolding counts_with longests_with ids_with
returns-then-r-eq6 c =
    let e = eq-eqb c.args.r.kind 6 c.if-r-eq6.true in
    record {
      counts_after = rw e;
      longests_after = rw e;
      ids_after = rw e;
    }

pub returns-else-r-eq6 : goal.returns-else-r-eq6
unfolding counts_with longests_with ids_with
returns-else-r-eq6 c =
    let e = ne_eqb c.args.r.kind 6 c.if-r-eq6.false in
    record {
      counts_after = rw e;
      longests_after = rw (e, c.max.ensures);
      ids_after = rw e;
    }
