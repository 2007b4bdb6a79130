-- `sheet_ranges::in_range_of` meets its contract: another kind is refused, and each arm has its kind's ranges.
use mathlib.Core.Path.{◌≡◌, ap, ◌∙◌}
use mathlib.Core.Bool.{◌&&◌, and_assoc, and-true}
use Prim.Native.Nat.{ℕ}
use native.Mathlib.Omega.{arith}
use borrow.Author.Tests.{le-leb, ne_eqb}
use lib.Dec.{eqb}
use Rattle.sheet_record.specs.declared.Given.{Given}
use Rattle.sheet_record.specs.declared.Record.{Record}
use Rattle.sheet_record.specs.Kinds.{kinds, line_of, fields_of, numbers, limit, within, ranged, in_range}
use Rattle.sheet_record.proofs.Tables.{unknown, no_fields, NoneOf, none_of}
use Rattle.sheet_ranges.proofs.Ranges.{of_kind}
use Rattle.sheet_ranges.proofs.in_range_of.Goals as goal
use Rattle.sheet_ranges.proofs.in_range_of.Goals.{Else-r-kind}

-- a record of the kind asked for is in range by that kind's fields
by-fields : (kind : ℕ) (g : Given) (r : Record) → r.kind ≡ kind
    → (eqb r.kind kind && in_range g r) ≡ ranged g r (fields_of kind) (numbers r)
unfolding in_range
by-fields kind g r e =
    of_kind r.kind kind (in_range g r) e ∙ ap (λ (k : ℕ). ranged g r (fields_of k) (numbers r)) e

pub returns-then-r-kind : goal.returns-then-r-kind
returns-then-r-kind c =
    let a = c.args in
    simp (ne_eqb a.r.kind a.kind (λ e. omega (arith, c.if-r-kind.true)))

-- the record is of the kind asked for
same : (c : Else-r-kind) → c.args.r.kind ≡ c.args.kind
same c = omega (arith, c.if-r-kind.false)

-- so it is judged by that kind's fields
judged : (c : Else-r-kind) → (eqb c.args.r.kind c.args.kind && in_range c.args.given c.args.r)
    ≡ ranged c.args.given c.args.r (fields_of c.args.kind) (numbers c.args.r)
judged c =
    let a = c.args in
    by-fields a.kind a.given a.r (same c)

pub returns-in-1 : goal.returns-in-1
unfolding ranged within limit fields_of line_of kinds
returns-in-1 c = rw (judged (goal.at.returns-in-1 c).Else-r-kind, c.in-1.is) (simp (and_assoc, and-true))

pub returns-in-2 : goal.returns-in-2
unfolding ranged within limit fields_of line_of kinds
returns-in-2 c = rw (judged (goal.at.returns-in-2 c).Else-r-kind, c.in-2.is) (simp (and_assoc, and-true))

pub returns-in-3 : goal.returns-in-3
unfolding ranged within limit fields_of line_of kinds
returns-in-3 c = rw (judged (goal.at.returns-in-3 c).Else-r-kind, c.in-3.is) (simp (and_assoc, and-true))

pub returns-in-4 : goal.returns-in-4
unfolding ranged within limit fields_of line_of kinds
returns-in-4 c = rw (judged (goal.at.returns-in-4 c).Else-r-kind, c.in-4.is) (simp (and_assoc, and-true))

pub returns-in-5 : goal.returns-in-5
unfolding ranged within limit fields_of line_of kinds
returns-in-5 c = rw (judged (goal.at.returns-in-5 c).Else-r-kind, c.in-5.is) (simp (and_assoc, and-true))

pub returns-in-6 : goal.returns-in-6
unfolding ranged within limit fields_of line_of kinds
returns-in-6 c =
    let l = le-leb 0 c.args.r.a (omega arith) in
    rw (judged (goal.at.returns-in-6 c).Else-r-kind, c.in-6.is) (simp (l, and_assoc, and-true))

pub returns-in-7 : goal.returns-in-7
unfolding ranged within limit fields_of line_of kinds
returns-in-7 c = rw (judged (goal.at.returns-in-7 c).Else-r-kind, c.in-7.is, c.fits_behind.ensures) (simp (and_assoc, and-true))

pub returns-in-8 : goal.returns-in-8
unfolding ranged within limit fields_of line_of kinds
returns-in-8 c = rw (judged (goal.at.returns-in-8 c).Else-r-kind, c.in-8.is) (simp (and_assoc, and-true))

pub returns-in-9 : goal.returns-in-9
unfolding ranged within limit fields_of line_of kinds
returns-in-9 c = rw (judged (goal.at.returns-in-9 c).Else-r-kind, c.in-9.is) (simp (and_assoc, and-true))

pub returns-in-10 : goal.returns-in-10
unfolding ranged within limit fields_of line_of kinds
returns-in-10 c = rw (judged (goal.at.returns-in-10 c).Else-r-kind, c.in-10.is) (simp (and_assoc, and-true))

pub returns-in_default : goal.returns-in_default
unfolding ranged NoneOf
returns-in_default c =
    let k = c.args.kind in
    let none = no_fields k (unknown k (none_of 10 k c.in_default.in_default-own.rest)) in
    rw (judged (goal.at.returns-in_default c).Else-r-kind, none) (simp (and_assoc, and-true))
