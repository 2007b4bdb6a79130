-- Page 01, 'Sheet records', the writer: closed examples, as the definitions compute them. Assumes nothing.
use Prim.Native.Nat.{◌-◌, ◌^◌}
use mathlib.Core.Path.{◌≡◌, refl}
use mathlib.Core.List.{[], ◌∷◌}
use Rattle.common.specs.Checks.{verdict, refusal}
use Rattle.sheet_record.specs.Numbers.{digits}
use Rattle.sheet_record.specs.Kinds.{kinds, line_of, fields_of, written, widths, size_of, body, encode, limit, within, ranged, in_range}
use Rattle.sheet_write.specs.Writing.{needed, write_checks, put_answer, put_bytes}
use Rattle.std.specs.declared.result.Result.TheVariants.{Err}

-- kind before range, range before room, and the length that the whole buffer needs
writes : put_bytes (9 ∷ 9 ∷ 9 ∷ 9 ∷ []) 1 (record { kind = 1; a = 4; b = 0; c = 0; d = 0; e = 0 }) ≡ 9 ∷ 1 ∷ 4 ∷ 9 ∷ []
unfolding put_bytes verdict write_checks needed written size_of widths encode body digits in_range ranged limit within fields_of line_of kinds
writes = refl

kind_first : put_answer 0 7 (record { kind = 11; a = 0; b = 1; c = 0; d = 0; e = 0 }) ≡ Err (refusal 2 7)
unfolding put_answer verdict write_checks needed written size_of widths in_range ranged limit within fields_of line_of kinds
kind_first = refl

-- kind 3 is known for reading alone, whatever its numbers are
not_written : put_answer 0 7 (record { kind = 3; a = 0; b = 0; c = 0; d = 0; e = 0 }) ≡ Err (refusal 2 7)
unfolding put_answer verdict write_checks needed written size_of widths in_range ranged limit within fields_of line_of kinds
not_written = refl

-- limits that another record sets are taken at their greatest: master 32 may say 100,000
message_at_its_greatest : put_bytes (0 ∷ 0 ∷ 0 ∷ 0 ∷ 0 ∷ 0 ∷ []) 0 (record { kind = 10; a = 32; b = 100000; c = 0; d = 0; e = 0 }) ≡ 10 ∷ 32 ∷ 0 ∷ 1 ∷ 134 ∷ 160 ∷ []
unfolding put_bytes verdict write_checks needed written size_of widths encode body digits in_range ranged limit within fields_of line_of kinds
message_at_its_greatest = refl

range_first : put_answer 0 (2 ^ 64 - 1) (record { kind = 1; a = 33; b = 0; c = 0; d = 0; e = 0 }) ≡ Err (refusal 4 (2 ^ 64 - 1))
unfolding put_answer verdict write_checks needed written size_of widths in_range ranged limit within fields_of line_of kinds
range_first = refl

no_room : put_answer 0 5 (record { kind = 1; a = 4; b = 0; c = 0; d = 0; e = 0 }) ≡ Err (refusal 13 7)
unfolding put_answer verdict write_checks needed written size_of widths in_range ranged limit within fields_of line_of kinds
no_room = refl

not_counted : put_answer 9 (2 ^ 64 - 2) (record { kind = 1; a = 4; b = 0; c = 0; d = 0; e = 0 }) ≡ Err (refusal 13 0)
unfolding put_answer verdict write_checks needed written size_of widths in_range ranged limit within fields_of line_of kinds
not_counted = refl
