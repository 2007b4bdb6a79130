-- `sheet_record::bus_of` meets its contract: the page's kinds one by one, and 0 past them.
use mathlib.Core.Path.{sym}
use Rattle.sheet_record.specs.Kinds.{kinds, line_of, bus_of}
use Rattle.sheet_record.proofs.Tables.{NoneOf, none_of}
use Rattle.sheet_record.proofs.Parts.{no_bus}
use Rattle.sheet_record.proofs.bus_of.Goals as goal

pub returns-in-1 : goal.returns-in-1
unfolding bus_of line_of kinds
returns-in-1 c = rw c.in-1.is

pub returns-in-2 : goal.returns-in-2
unfolding bus_of line_of kinds
returns-in-2 c = rw c.in-2.is

pub returns-in-3 : goal.returns-in-3
unfolding bus_of line_of kinds
returns-in-3 c = rw c.in-3.is

pub returns-in-4 : goal.returns-in-4
unfolding bus_of line_of kinds
returns-in-4 c = rw c.in-4.is

pub returns-in-5 : goal.returns-in-5
unfolding bus_of line_of kinds
returns-in-5 c = rw c.in-5.is

pub returns-in-6 : goal.returns-in-6
unfolding bus_of line_of kinds
returns-in-6 c = rw c.in-6.is

pub returns-in-7 : goal.returns-in-7
unfolding bus_of line_of kinds
returns-in-7 c = rw c.in-7.is

pub returns-in-8 : goal.returns-in-8
unfolding bus_of line_of kinds
returns-in-8 c = rw c.in-8.is

pub returns-in-9 : goal.returns-in-9
unfolding bus_of line_of kinds
returns-in-9 c = rw c.in-9.is

pub returns-in-10 : goal.returns-in-10
unfolding bus_of line_of kinds
returns-in-10 c = rw c.in-10.is

pub returns-in_default : goal.returns-in_default
unfolding NoneOf
returns-in_default c = sym (no_bus c.args.kind (none_of 10 c.args.kind c.in_default.in_default-own.rest))
