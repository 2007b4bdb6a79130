-- `sheet_reader::behind` meets its contract: each kind of what is found has its place.
use mathlib.Core.Path.{refl}
use Rattle.sheet_reader.specs.Walk.{step_from}
use Rattle.sheet_reader.proofs.behind.Goals as goal

pub returns-in-One : goal.returns-in-One
unfolding step_from
returns-in-One c = rw (← c.found_at.ensures, c.in-One.is) refl

pub returns-in-Refused : goal.returns-in-Refused
unfolding step_from
returns-in-Refused c = rw (← c.found_at.ensures, c.in-Refused.is) refl

pub returns-in-End : goal.returns-in-End
unfolding step_from
returns-in-End c = rw (← c.found_at.ensures, c.in-End.is) refl
