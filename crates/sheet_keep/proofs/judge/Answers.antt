-- `sheet_keep::judge` meets its contract, a law of `Late` for each answer.
use mathlib.Core.Path.{◌∙◌, sym, ap}
use native.Mathlib.Omega.{arith}
use Rattle.common.specs.Checks.{unless_no}
use Rattle.sheet_keep.proofs.Late.{late_variables, late_met, late_new, late_streams, late_master, late_none}
use Rattle.sheet_keep.proofs.judge.Goals as goal

pub returns-then-n-ge64 : goal.returns-then-n-ge64
returns-then-n-ge64 c =
    let a = c.args in
    ap (λ n. unless_no n a.place) (late_variables a.counts.now a.ids.now a.n a.r c.if-r-eq6.true c.if-n-ge64.true)

pub returns-then-among : goal.returns-then-among
returns-then-among c =
    let a = c.args in
    ap (λ n. unless_no n a.place) (late_met a.counts.now a.ids.now a.n a.r c.if-r-eq6.true c.if-n-ge64.false (sym c.among.ensures ∙ c.if-among.true))

pub returns-then-r-eq6 : goal.returns-then-r-eq6
returns-then-r-eq6 c =
    let a = c.args in
    ap (λ n. unless_no n a.place) (late_new a.counts.now a.ids.now a.n a.r c.if-r-eq6.true c.if-n-ge64.false (sym c.among.ensures ∙ c.if-among.false))

pub returns-then-n-ge-MOST : goal.returns-then-n-ge-MOST
returns-then-n-ge-MOST c =
    let a = c.args in
    ap (λ n. unless_no n a.place) (late_streams a.counts.now a.ids.now a.n a.r c.if-r-eq6.false c.if-n-ge-MOST.true)

pub bounds-counts-master : goal.bounds-counts-master
bounds-counts-master c =
    omega (arith, c.requires c.if-r-eq6.false)

pub returns-then-counts-master-ge80 : goal.returns-then-counts-master-ge80
returns-then-counts-master-ge80 c =
    let a = c.args in
    ap (λ n. unless_no n a.place) (late_master a.counts.now a.ids.now a.n a.r c.if-r-eq6.false c.if-n-ge-MOST.false c.if-counts-master-ge80.true)

pub returns : goal.returns
returns c =
    let a = c.args in
    ap (λ n. unless_no n a.place) (late_none a.counts.now a.ids.now a.n a.r c.if-r-eq6.false c.if-n-ge-MOST.false c.if-counts-master-ge80.false)
