-- `report_urgent_lines::put_late` stores the line of a stream that first-come queues refuse.
use mathlib.Core.Path.{◌≡◌}
use mathlib.Core.List.{[], ◌++◌, append_assoc}
use Prim.Native.Nat.{ℕ}
use native.Mathlib.Omega.{arith}
use Rattle.units.specs.declared.BitPeriods.{BitPeriods}
use Rattle.text.specs.Text.{word}
use Rattle.text.proofs.Writing.{wrote_then}
use Rattle.report_phrases.specs.Phrases.{refused_text, two_counts}
use Rattle.report_urgent_lines.specs.Lines.{deadline_text, late_line}
use Rattle.report_urgent_lines.proofs.Lengths.{late_most}
use Rattle.report_urgent_lines.proofs.put_late.Goals as goal

-- the four pieces that the code stores
pieces : (number : ℕ) (bound figure deadline : BitPeriods)
    → late_line number bound figure deadline
    ≡ word "first come " ++ ((refused_text 8 number ++ []) ++ (two_counts (word " bound ") bound (word " urgent ") figure ++ deadline_text deadline))
unfolding late_line
pieces number bound figure deadline = simp append_assoc

pub returns : goal.returns
returns c =
    let start = c in
    let a = start.args in (
      rw pieces
          (wrote_then c.put_word-refusal.ensures
          (wrote_then c.put_refused-counts.ensures
          (wrote_then c.put_two-end.ensures c.put_deadline.ensures))),
      late_most a.number a.bound a.figure a.deadline start.requires (omega arith) (omega arith) (omega arith),
    )
