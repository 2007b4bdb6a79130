-- `worldfip_plan::plan` meets its contract: a sheet without figures stays refused, and else 13, 12 or the rows.
use mathlib.Core.Path.{refl, sym, ap, ◌∙◌}
use mathlib.Core.List.{List}
use Prim.Native.Nat.{ℕ}
use native.Mathlib.Omega.{arith}
use Rattle.std.proofs.lemmas.Result.{err_from_is_err_and}
use Rattle.sheet_rules.specs.Whole.{reading}
use Rattle.sheet_rules.proofs.Known.{reading_read}
use Rattle.worldfip_rules.specs.Traffic.{Declared}
use Rattle.worldfip_figures.specs.declared.Figures.{Figures}
use Rattle.worldfip_figures.specs.Declares.{traffic_of}
use Rattle.worldfip_figures.proofs.Measured.{Measured, told_table, told_refusal}
use Rattle.worldfip_figures.proofs.Passing.{declared}
use Rattle.worldfip_plan.proofs.Answers.{gives_13, gives_12, gives_none, tells, tells_same, accepts, tells_stop}
use Rattle.worldfip_plan.proofs.Tied.{usable, within, asked_is, late_is, served_is}
use Rattle.worldfip_plan.proofs.plan.Goals as goal
use Rattle.std.specs.declared.result.Result.TheVariants.{Err}
use Rattle.common.specs.Checks.{refusal}

-- what the figures tell of the sheet is declared within the ranges
declares : (s : List ℕ) {f : Figures} (M : Measured (reading s) f) → Declared (traffic_of M.sheet)
declares s M = declared s M.sheet (reading_read s M.sheet M.reads) M.bus

pub returns-then-rows-need : goal.returns-then-rows-need
returns-then-rows-need c =
    let s = c.args.s.now in
    let M = told_table (reading s) c.in_ok-figures.figures (sym c.in_ok-figures.was ∙ c.figures_of.ensures) in
    let old = c.args.rows.now in
    let told = tells_same M.sheet old M.reads (ap (λ k. Err (refusal 13 k)) M.rows_are) refl
    (tells M.sheet old (gives_13 M.sheet _ M.bus M.some M.few (omega (arith, M.rows_are, c.if-rows-need.true)))) in
    record { value = told.0; rows_after = told.1 }

pub table-late-requires : goal.table-late-requires
table-late-requires c =
    let s = c.args.s.now in
    let M = told_table (reading s) c.in_ok-figures.figures (sym c.in_ok-figures.was ∙ c.figures_of.ensures) in
    let D = declares s M in
    record {
      usable = (usable D M.periods _ M.number, within D M.places _ M.number);
      rows_bound = (omega (arith, M.rows_are, M.few), c.if-rows-need.false);
    }

pub returns-then-late-ne0 : goal.returns-then-late-ne0
returns-then-late-ne0 c =
    let s = c.args.s.now in
    let M = told_table (reading s) c.in_ok-figures.figures (sym c.in_ok-figures.was ∙ c.figures_of.ensures) in
    let D = declares s M in
    let old = c.args.rows.now in
    let e = c.table-late.ensures in
    let l = late_is D M.places old (asked_is D M.periods _ _ _ M.number M.slots_are M.rows_are) e.value e.out_after c.if-late-ne0.true in
    let told = tells_same M.sheet old M.reads (ap (λ k. Err (refusal 12 k)) l.variable_then) l.run_then
    (tells M.sheet old
    (gives_12 M.sheet _ M.bus M.some M.few (omega (arith, M.rows_are, c.if-rows-need.false)) l.misses_then)) in
    record { value = told.0; rows_after = told.1 }

pub returns-in_err-figures : goal.returns-in_err-figures
returns-in_err-figures c =
    let s = c.args.s.now in
    let p = err_from_is_err_and c.from_residual.result c.from_residual.ensures.1 in
    let r = c.in_err-figures.field-0.0 in
    let told = tells_stop (reading s) c.args.rows.now r.no r.place (told_refusal (reading s) r.no r.place (sym c.in_err-figures.was ∙ c.figures_of.ensures)) in
    record { value = rw (p.1, p.2) told.0; rows_after = told.1 }

pub returns : goal.returns
returns c =
    let s = c.args.s.now in
    let M = told_table (reading s) c.in_ok-figures.figures (sym c.in_ok-figures.was ∙ c.figures_of.ensures) in
    let D = declares s M in
    let old = c.args.rows.now in
    let e = c.table-late.ensures in
    let v = served_is D M.places old (asked_is D M.periods _ _ _ M.number M.slots_are M.rows_are) e.value e.out_after c.if-late-ne0.false in
    let told = tells_same M.sheet old M.reads (accepts M.micro M.slots_are M.rows_are) v.run_then
    (tells M.sheet old
    (gives_none M.sheet _ M.bus M.some M.few (omega (arith, M.rows_are, c.if-rows-need.false)) v.none_then)) in
    record { value = told.0; rows_after = told.1 }
