-- `report_sheet::first_bus` answers the bus of the record that a reader finds at the first byte, and 0 where it finds none.
use mathlib.Core.Path.{refl}
use Rattle.sheet_record.specs.Kinds.{kinds, line_of, bus_of}
use Rattle.report_sheet.specs.Whole.{first_bus}
use Rattle.report_sheet.proofs.first_bus.Goals as goal

pub returns-in-One : goal.returns-in-One
unfolding first_bus
returns-in-One c = rw (← c.first.ensures, c.in-One.is) c.bus_of.ensures

pub returns-in-Refused : goal.returns-in-Refused
unfolding first_bus bus_of line_of kinds
returns-in-Refused c = rw (← c.first.ensures, c.in-Refused.is) refl

pub returns-in-End : goal.returns-in-End
unfolding first_bus bus_of line_of kinds
returns-in-End c = rw (← c.first.ensures, c.in-End.is) refl
