-- How long a count with its units is at most, the number and master of a stream, and a refusal without the line's end. Assumes nothing.
use mathlib.Core.List.{List, [], ◌++◌}
use mathlib.Core.Bool.{Bool, true, false, cond, ◌||◌}
use Prim.Native.Nat.{ℕ, ◌+◌, ◌^◌, ◌≤◌, ◌<◌}
use native.Mathlib.Omega.{arith}
use lib.Dec.{leb, eqb}
use lib.ListN.{length, length-append}
use Rattle.common.specs.Sums.{up}
use Rattle.units.specs.Units.{nanos_up}
use Rattle.units.specs.declared.BitPeriods.{BitPeriods}
use Rattle.text.specs.Text.{word, decimal}
use Rattle.text.proofs.Numbers.{length_places}
use Rattle.text.proofs.Lengths.{decimal_most, decimal_any}
use Rattle.report_phrases.specs.Phrases.{in_bp, in_ns, in_both, two_counts, name_of, whose_text, place_text, refused_text}

-- ---- Counts

-- of 32 bits
pub bp_most : (b : BitPeriods) → b.0 < 2 ^ 32 → length (in_bp b) ≤ 13
unfolding in_bp
bp_most b s = simp length-append (omega (arith, decimal_most 10 b.0 (omega arith) (omega arith) (omega arith)))

-- their ns have 14 digits at most
ns_most : (b : BitPeriods) → b.0 < 2 ^ 32 → length (in_ns (nanos_up b)) ≤ 17
unfolding in_ns nanos_up up
ns_most b s = simp length-append (omega (arith, decimal_most 14 (nanos_up b).0 (omega arith) (omega arith) (omega arith)))

pub both_most : (b : BitPeriods) → b.0 < 2 ^ 32 → length (in_both b) ≤ 31
unfolding in_both
both_most b s = omega (arith, length-append (in_bp b) (word " " ++ in_ns (nanos_up b)), bp_most b s, ns_most b s)

-- whatever the count is
pub both_any : (b : BitPeriods) → length (in_both b) ≤ 49
unfolding in_both in_bp in_ns
both_any b = simp length-append (omega (arith, decimal_any b.0, decimal_any (nanos_up b).0))

pub two_most : (m : ℕ) (first : List ℕ) (a : BitPeriods) (second : List ℕ) (b : BitPeriods) → length (in_both a) ≤ m → length (in_both b) ≤ m
    → length (two_counts first a second b) ≤ length first + length second + (m + m)
unfolding two_counts
two_most m first a second b s t =
    omega (
      arith,
      length-append first (in_both a ++ (second ++ in_both b)),
      length-append (in_both a) (second ++ in_both b),
      length-append second (in_both b),
    )

-- ---- Streams

-- a master's name has two digits whatever its number
pub whose_most : (number master : ℕ) → number ≤ 800 → length (whose_text number master) ≤ 14
unfolding whose_text name_of
whose_most number master few =
    simp length-append (omega (arith, decimal_most 3 number (omega arith) (omega arith) (omega arith), length_places 2 master))

-- ---- Refusals

place_most : (n p : ℕ) → length (place_text n p) ≤ 34
unfolding place_text
place_most n p = split (leb n 7 || eqb n 20) (leb n 9 || eqb n 21) (eqb n 12) (eqb n 23)
  where
    split : (a b c d : Bool)
        → length
        (cond a (word " at byte " ++ decimal p)
        (cond b (word " at stream " ++ decimal p) (cond c (word " at variable " ++ decimal p) (cond d (word " at line " ++ decimal p) []))))
        ≤ 34
    split true b c d = omega (arith, decimal_any p)
    split false true c d = omega (arith, decimal_any p)
    split false false true d = omega (arith, decimal_any p)
    split false false false true = omega (arith, decimal_any p)
    split false false false false = omega arith

pub refused_most : (n p : ℕ) → length (refused_text n p) ≤ 63
unfolding refused_text
refused_most n p = omega (arith, length-append (decimal n) (place_text n p), decimal_any n, place_most n p)
