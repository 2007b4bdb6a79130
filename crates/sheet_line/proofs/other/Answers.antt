-- `sheet_line::other` meets its contract, a number at a time.
use native.Mathlib.Omega.{arith}
use Rattle.sheet_line.proofs.Lines.{past_others}
use Rattle.sheet_line.proofs.other.Goals as goal

pub returns-in_default : goal.returns-in_default
returns-in_default c = let a = c.args in past_others a.r a.j (omega arith)
