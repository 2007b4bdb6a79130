-- `sheet_write::put_number` meets its contract: with the digits that are left to put, the buffer is what is asked.
use Prim.Native.Nat.{◌+◌}
use mathlib.Core.Path.{◌≡◌}
use mathlib.Core.List.{◌++◌}
use lib.ListN.{take, drop}
use Rattle.sheet_record.specs.Numbers.{digits}
use Rattle.sheet_write.proofs.put_number.Given as goal

abbrev pub invariant-loop-j : goal.invariant-loop-j
invariant-loop-j l = take l.at l.buf ++ (digits l.j l.x ++ drop (l.at + l.j) l.buf) ≡ take l.at l.initial.buf ++ (digits l.w l.v ++ drop (l.at + l.w) l.initial.buf)
