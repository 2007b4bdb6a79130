-- How long a line of a path's report is at most. Assumes nothing.
use mathlib.Core.List.{◌++◌}
use mathlib.Core.Bool.{Bool, true, false, cond}
use Prim.Native.Nat.{ℕ, ◌^◌, ◌≤◌, ◌<◌}
use native.Mathlib.Omega.{arith}
use lib.Dec.{eqb}
use lib.ListN.{length, length-append}
use Rattle.units.specs.declared.BitPeriods.{BitPeriods}
use Rattle.text.specs.Text.{word, decimal}
use Rattle.text.proofs.Numbers.{length_places}
use Rattle.text.proofs.Lengths.{decimal_most, decimal_any}
use Rattle.report_phrases.specs.Phrases.{name_of}
use Rattle.report_phrases.proofs.Lengths.{bp_most, both_most, refused_most}
use Rattle.report_path_lines.specs.Lines.{segment_line, gateway_line, total_line, sheet_refusal, path_place, path_refusal}

-- ---- A path that is accepted

-- a master's name has two digits whatever its number
pub segment_most : (number master : ℕ) (bound : BitPeriods) → number < 100 → bound.0 < 2 ^ 32 → length (segment_line number master bound) ≤ 35
unfolding segment_line name_of
segment_most number master bound few b =
    simp length-append (omega (arith, decimal_most 2 number (omega arith) (omega arith) (omega arith), length_places 2 master, bp_most bound b))

pub gateway_most : (number : ℕ) (time : BitPeriods) → number < 100 → time.0 < 2 ^ 32 → length (gateway_line number time) ≤ 53
unfolding gateway_line
gateway_most number time few t =
    simp length-append (omega (arith, decimal_most 2 number (omega arith) (omega arith) (omega arith), bp_most time t))

pub total_most : (total deadline : BitPeriods) → total.0 < 2 ^ 32 → deadline.0 < 2 ^ 32 → length (total_line total deadline) ≤ 61
unfolding total_line
total_most total deadline t d = simp length-append (omega (arith, both_most total t, bp_most deadline d))

-- ---- Refusals

pub sheet_refusal_most : (segment n p : ℕ) → length (sheet_refusal segment n p) ≤ 97
unfolding sheet_refusal
sheet_refusal_most segment n p = simp length-append (omega (arith, refused_most n p, decimal_any segment))

place_most : (n p : ℕ) → length (path_place n p) ≤ 35
unfolding path_place
place_most n p = split (eqb n 17) (eqb n 18) (eqb n 4) (eqb p 0)
  where
    split : (a b c d : Bool)
        → length (cond a (word " at " ++ (decimal p ++ word " gateways\n")) (cond b (word " at segment " ++ (decimal p ++ word "\n"))
        (cond c (cond d (word " at deadline\n") (word " at gateway " ++ (decimal p ++ word "\n"))) (word "\n")))) ≤ 35
    split true b c d = simp length-append (omega (arith, decimal_any p))
    split false true c d = simp length-append (omega (arith, decimal_any p))
    split false false true true = omega arith
    split false false true false = simp length-append (omega (arith, decimal_any p))
    split false false false d = omega arith

pub path_refusal_most : (n p : ℕ) → length (path_refusal n p) ≤ 64
unfolding path_refusal
path_refusal_most n p = omega (arith, length-append (decimal n) (path_place n p), decimal_any n, place_most n p)
