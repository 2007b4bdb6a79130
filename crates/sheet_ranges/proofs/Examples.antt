-- Page 01, 'Sheet records', and page 02, Asks 7 and 10: closed examples of ranges, as the definitions compute them. Assumes nothing.
use mathlib.Core.Path.{◌≡◌, refl}
use mathlib.Core.Bool.{true, false}
use mathlib.Core.List.{[], ◌∷◌, map}
use Prim.Native.Nat.{ℕ}
use Rattle.sheet_record.specs.declared.Given.{Given}
use Rattle.sheet_record.specs.declared.Record.{Record}
use Rattle.sheet_record.specs.Kinds.{kinds, line_of, fields_of, limit, within, ranged, in_range}
use Rattle.sheet_record.proofs.Examples.{late}

-- behind a segment of two masters
abbrev behind : Given
behind = record { masters = 2; message = 0 }

-- master 3 of 2 masters, C of 1,549, D above T: out of range
master_beyond : in_range behind (record { kind = 2; a = 3; b = 203; c = 1000; d = 1000; e = 0 }) ≡ false
unfolding in_range ranged limit within fields_of line_of kinds
master_beyond = refl

cycle_beyond : in_range behind (record { kind = 2; a = 1; b = 1549; c = 1000; d = 1000; e = 0 }) ≡ false
unfolding in_range ranged limit within fields_of line_of kinds
cycle_beyond = refl

deadline_beyond : in_range behind (record { kind = 2; a = 1; b = 1548; c = 1000; d = 1001; e = 0 }) ≡ false
unfolding in_range ranged limit within fields_of line_of kinds
deadline_beyond = refl

-- D up to T - J: 100 is in range and 101 is not; J up to T - 1, and none above wraps
late_ranged : in_range behind late ≡ true
unfolding in_range ranged limit within fields_of line_of kinds
late_ranged = refl

deadline_beyond_slack : in_range behind (record { kind = 7; a = 2; b = 203; c = 1000; d = 101; e = 900 }) ≡ false
unfolding in_range ranged limit within fields_of line_of kinds
deadline_beyond_slack = refl

jitter_beyond : in_range behind (record { kind = 7; a = 2; b = 203; c = 1000; d = 1; e = 1000 }) ≡ false
unfolding in_range ranged limit within fields_of line_of kinds
jitter_beyond = refl

jitter_far_beyond : in_range behind (record { kind = 7; a = 2; b = 203; c = 1000; d = 1; e = 4294967295 }) ≡ false
unfolding in_range ranged limit within fields_of line_of kinds
jitter_far_beyond = refl

-- the editions of the P-NET rule are 1 and 2
abbrev by_edition : ℕ → Record
by_edition n = record { kind = 8; a = n; b = 0; c = 0; d = 0; e = 0 }

editions : map (λ n. in_range behind (by_edition n)) (0 ∷ 1 ∷ 2 ∷ 3 ∷ 255 ∷ []) ≡ false ∷ true ∷ true ∷ false ∷ false ∷ []
unfolding in_range ranged limit within fields_of line_of kinds
editions = refl
