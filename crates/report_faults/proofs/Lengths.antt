-- How long the last lines of a capture's report are at most. Assumes nothing.
use mathlib.Core.List.{List, [], ◌++◌}
use mathlib.Core.Bool.{Bool, true, false, cond}
use Prim.Native.Nat.{ℕ, ◌+◌, ◌^◌, ◌≤◌, ◌<◌}
use native.Mathlib.Omega.{arith}
use lib.Dec.{eqb}
use lib.ListN.{length, length-append}
use Rattle.text.specs.Text.{word, decimal}
use Rattle.text.proofs.Lengths.{decimal_most}
use Rattle.report_faults.specs.Faults.{exceeding, first, streams_line, soon_line, ages_lines, silence_line, fault_lines, clean, last_lines}
use Rattle.report_faults.proofs.Counts.{exceeding_few, first_few}

module _ (n : ℕ) (few : n ≤ 800) where
  streams_most : (words : List ℕ) (run : ℕ → ℕ) → length (streams_line words run n) ≤ length words + 30
  unfolding streams_line
  streams_most words run = split (eqb (exceeding run n) 0)
    where
      split : (b : Bool) → length (cond b [] (words ++ (decimal (exceeding run n) ++ (word " streams, first stream " ++ (decimal (first run n + 1) ++ word "\n"))))) ≤ length words + 30
      split true = omega arith
      split false =
          simp length-append
          (omega (
            arith,
            decimal_most 3 (exceeding run n) (omega arith) (omega arith) (omega (arith, exceeding_few run n)),
            decimal_most 3 (first run n + 1) (omega arith) (omega arith) (omega (arith, first_few run n)),
          ))

  silence_most : (answers : ℕ → ℕ) → length (silence_line answers n) ≤ 31
  unfolding silence_line
  silence_most answers = split (eqb (exceeding answers n) 0)
    where
      split : (b : Bool) → length (cond b (word "no answer in the whole capture\n") []) ≤ 31
      split true = omega arith
      split false = omega arith

  module _ (above late answers : ℕ → ℕ) (soon whose : ℕ) (s : soon < 2 ^ 64) (w : whose < 2 ^ 32) where
    soon_most : length (soon_line soon whose) ≤ 94
    unfolding soon_line
    soon_most = split (eqb soon 0)
      where
        split : (b : Bool) → length (cond b [] (word "requests sooner than their spacing allows " ++ (decimal soon ++ (word " times, first stream " ++ (decimal whose ++ word "\n"))))) ≤ 94
        split true = omega arith
        split false =
            simp length-append
            (omega (arith, decimal_most 20 soon (omega arith) (omega arith) (omega arith), decimal_most 10 whose (omega arith) (omega arith) (omega arith)))

    ages_most : (broken : Bool) → length (ages_lines late soon whose broken n) ≤ 158
    unfolding ages_lines
    ages_most true = omega arith
    ages_most false =
        let overdue = streams_line (word "requests open beyond the bound in ") late n in
        omega (arith, length-append overdue (soon_line soon whose), streams_most (word "requests open beyond the bound in ") late, soon_most)

    pub last_most : (broken : Bool) → length (last_lines above late answers soon whose broken n) ≤ 246
    unfolding last_lines fault_lines
    last_most broken = split (clean above late answers soon broken n)
      where
        over : List ℕ
        over = streams_line (word "answers above the bound in ") above n

        split : (b : Bool) → length (cond b (word "every answer within its bound\n") (over ++ (ages_lines late soon whose broken n ++ silence_line answers n))) ≤ 246
        split true = omega arith
        split false =
            omega (
              arith,
              length-append over (ages_lines late soon whose broken n ++ silence_line answers n),
              length-append (ages_lines late soon whose broken n) (silence_line answers n),
              streams_most (word "answers above the bound in ") above,
              ages_most broken,
              silence_most answers,
            )
