-- `sheet_record::number` meets its contract: x is the number in the bytes so far.
use Prim.Native.Nat.{◌<◌, ◌^◌}
use mathlib.Core.Path.{◌≡◌}
use Rattle.sheet_record.specs.Numbers.{be}
use Rattle.sheet_record.proofs.number.Given as goal

abbrev pub invariant-loop-byte : goal.invariant-loop-byte
invariant-loop-byte l = (l.x ≡ be l.s l.at l.byte-index) × (l.x < 256 ^ l.byte-index)
