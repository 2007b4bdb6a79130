-- `sheet_record::record_of` meets its contract: nothing where another kind stands, and each arm has its kind's widths.
use mathlib.Core.Path.{◌≡◌, refl, sym, ◌∙◌}
use lib.ListN.{get_or}
use native.Mathlib.Omega.{arith}
use Rattle.sheet_record.specs.declared.Met.{Met}
use Rattle.sheet_record.specs.Kinds.{kinds, line_of, fields_of, known, met_at, met_of}
use Rattle.sheet_record.specs.Widths.{width_at}
use Rattle.sheet_record.proofs.Tables.{wide, unknown, NoneOf, none_of}
use Rattle.sheet_record.proofs.Records.{met_past, met_unknown, met_same, met_other, met_none}
use borrow.Author.Rules.{rules}
use Rattle.sheet_record.proofs.record_of.Goals as goal
use Rattle.sheet_record.proofs.record_of.Goals.{Else-s-at-2}

pub returns-then-s-at : goal.returns-then-s-at
returns-then-s-at c =
    let a = c.args in
    c.nothing_at.ensures ∙ met_none a.s.now a.at a.kind (met_past a.s.now a.at c.if-s-at.true)

pub returns-then-s-at-2 : goal.returns-then-s-at-2
returns-then-s-at-2 c =
    let a = c.args in
    c.nothing_at-then-s-at-2.ensures ∙ met_other a.s.now a.at a.kind (λ e. omega (arith, c.if-s-at-2.true))

-- the kind asked for stands there
stands : (c : Else-s-at-2) → get_or c.args.s.now c.args.at 0 ≡ c.args.kind
stands c = omega (arith, c.if-s-at-2.false)

-- so what is met there is what was asked for
as-asked : (c : Else-s-at-2) {m : Met} → m ≡ met_at c.args.s.now c.args.at
    → m ≡ met_of c.args.s.now c.args.at c.args.kind
as-asked c e =
    let a = c.args in
    e ∙ sym (met_same a.s.now a.at a.kind (stands c))

pub whole_at-requires : goal.whole_at-requires
unfolding width_at fields_of line_of kinds known
whole_at-requires c = record {
  at_in_bounds = search rules;
  wide = rw (stands (goal.at.whole_at-requires c).Else-s-at-2, c.in-1.is) (wide 1 refl);
}

pub whole_at-requires-in-2 : goal.whole_at-requires-in-2
unfolding width_at fields_of line_of kinds known
whole_at-requires-in-2 c = record {
  at_in_bounds = search rules;
  wide = rw (stands (goal.at.whole_at-requires-in-2 c).Else-s-at-2, c.in-2.is) (wide 2 refl);
}

pub whole_at-requires-in-3 : goal.whole_at-requires-in-3
unfolding width_at fields_of line_of kinds known
whole_at-requires-in-3 c = record {
  at_in_bounds = search rules;
  wide = rw (stands (goal.at.whole_at-requires-in-3 c).Else-s-at-2, c.in-3.is) (wide 3 refl);
}

pub whole_at-requires-in-4 : goal.whole_at-requires-in-4
unfolding width_at fields_of line_of kinds known
whole_at-requires-in-4 c = record {
  at_in_bounds = search rules;
  wide = rw (stands (goal.at.whole_at-requires-in-4 c).Else-s-at-2, c.in-4.is) (wide 4 refl);
}

pub whole_at-requires-in-5 : goal.whole_at-requires-in-5
unfolding width_at fields_of line_of kinds known
whole_at-requires-in-5 c = record {
  at_in_bounds = search rules;
  wide = rw (stands (goal.at.whole_at-requires-in-5 c).Else-s-at-2, c.in-5.is) (wide 5 refl);
}

pub whole_at-requires-in-6 : goal.whole_at-requires-in-6
unfolding width_at fields_of line_of kinds known
whole_at-requires-in-6 c = record {
  at_in_bounds = search rules;
  wide = rw (stands (goal.at.whole_at-requires-in-6 c).Else-s-at-2, c.in-6.is) (wide 6 refl);
}

pub whole_at-requires-in-7 : goal.whole_at-requires-in-7
unfolding width_at fields_of line_of kinds known
whole_at-requires-in-7 c = record {
  at_in_bounds = search rules;
  wide = rw (stands (goal.at.whole_at-requires-in-7 c).Else-s-at-2, c.in-7.is) (wide 7 refl);
}

pub whole_at-requires-in-8 : goal.whole_at-requires-in-8
unfolding width_at fields_of line_of kinds known
whole_at-requires-in-8 c = record {
  at_in_bounds = search rules;
  wide = rw (stands (goal.at.whole_at-requires-in-8 c).Else-s-at-2, c.in-8.is) (wide 8 refl);
}

pub whole_at-requires-in-9 : goal.whole_at-requires-in-9
unfolding width_at fields_of line_of kinds known
whole_at-requires-in-9 c = record {
  at_in_bounds = search rules;
  wide = rw (stands (goal.at.whole_at-requires-in-9 c).Else-s-at-2, c.in-9.is) (wide 9 refl);
}

pub whole_at-requires-in-10 : goal.whole_at-requires-in-10
unfolding width_at fields_of line_of kinds known
whole_at-requires-in-10 c = record {
  at_in_bounds = search rules;
  wide = rw (stands (goal.at.whole_at-requires-in-10 c).Else-s-at-2, c.in-10.is) (wide 10 refl);
}

pub returns-in-1 : goal.returns-in-1
returns-in-1 c = as-asked (goal.at.returns-in-1 c).Else-s-at-2 c.whole_at.ensures

pub returns-in-2 : goal.returns-in-2
returns-in-2 c = as-asked (goal.at.returns-in-2 c).Else-s-at-2 c.whole_at-in-2.ensures

pub returns-in-3 : goal.returns-in-3
returns-in-3 c = as-asked (goal.at.returns-in-3 c).Else-s-at-2 c.whole_at-in-3.ensures

pub returns-in-4 : goal.returns-in-4
returns-in-4 c = as-asked (goal.at.returns-in-4 c).Else-s-at-2 c.whole_at-in-4.ensures

pub returns-in-5 : goal.returns-in-5
returns-in-5 c = as-asked (goal.at.returns-in-5 c).Else-s-at-2 c.whole_at-in-5.ensures

pub returns-in-6 : goal.returns-in-6
returns-in-6 c = as-asked (goal.at.returns-in-6 c).Else-s-at-2 c.whole_at-in-6.ensures

pub returns-in-7 : goal.returns-in-7
returns-in-7 c = as-asked (goal.at.returns-in-7 c).Else-s-at-2 c.whole_at-in-7.ensures

pub returns-in-8 : goal.returns-in-8
returns-in-8 c = as-asked (goal.at.returns-in-8 c).Else-s-at-2 c.whole_at-in-8.ensures

pub returns-in-9 : goal.returns-in-9
returns-in-9 c = as-asked (goal.at.returns-in-9 c).Else-s-at-2 c.whole_at-in-9.ensures

pub returns-in-10 : goal.returns-in-10
returns-in-10 c = as-asked (goal.at.returns-in-10 c).Else-s-at-2 c.whole_at-in-10.ensures

pub returns-in_default : goal.returns-in_default
unfolding NoneOf
returns-in_default c =
    let a = c.args in
    let k = get_or a.s.now a.at 0 in
    let e = stands (goal.at.returns-in_default c).Else-s-at-2 in
    let none = met_unknown a.s.now a.at (rw e (unknown a.kind (none_of 10 a.kind c.in_default.in_default-own.rest))) in
    c.nothing_at-in_default.ensures ∙ met_none a.s.now a.at a.kind none
