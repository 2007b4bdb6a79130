-- No report of a path is longer than `most_path`, so a run of so many bytes holds every one. Assumes nothing.
use mathlib.Core.List.{◌++◌}
use Prim.Native.Nat.{ℕ, ◌+◌, ◌^◌, ◌≤◌, ◌<◌}
use native.Mathlib.Omega.{arith}
use lib.ListN.{length, length-append}
use Rattle.units.specs.declared.BitPeriods.{BitPeriods}
use Rattle.text.specs.Text.{texts}
use Rattle.text.proofs.Lengths.{texts_most}
use Rattle.report_path_lines.specs.Lines.{segment_line, gateway_line, total_line, sheet_refusal, path_refusal}
use Rattle.report_path_lines.proofs.Lengths.{segment_most, gateway_most, total_most, sheet_refusal_most, path_refusal_most}
use Rattle.report_path.specs.Told.{most_path, hop_lines, path_text}

-- ---- The report

module _ (masters : ℕ → ℕ) (bounds times : ℕ → BitPeriods) (b : (i : ℕ) → (bounds i).0 < 2 ^ 32) (t : (i : ℕ) → (times i).0 < 2 ^ 32) where
  hop_most : (i : ℕ) → i < 10 → length (hop_lines masters bounds times i) ≤ 88
  unfolding hop_lines
  hop_most i few =
      let time = times (i + 1) in
      let bound = bounds (i + 2) in
      omega (
        arith,
        length-append (gateway_line (i + 1) time) (segment_line (i + 2) (masters (i + 2)) bound),
        gateway_most (i + 1) time (omega arith) (t (i + 1)),
        segment_most (i + 2) (masters (i + 2)) bound (omega arith) (b (i + 2)),
      )

  pub no_path_longer : (g : ℕ) (total deadline : BitPeriods) → g ≤ 10 → total.0 < 2 ^ 32 → deadline.0 < 2 ^ 32
      → length (path_text masters bounds times g total deadline) ≤ most_path
  unfolding path_text
  no_path_longer g total deadline few s d =
      let first = segment_line 1 (masters 1) (bounds 1) in
      let hops = texts (hop_lines masters bounds times) g in
      omega (
        arith,
        length-append first (hops ++ total_line total deadline),
        length-append hops (total_line total deadline),
        segment_most 1 (masters 1) (bounds 1) (omega arith) (b 1),
        texts_most (hop_lines masters bounds times) 88 g (λ i h. hop_most i (omega arith)),
        total_most total deadline s d,
      )

-- ---- Refusals

pub no_sheet_refusal_longer : (segment n p : ℕ) → length (sheet_refusal segment n p) ≤ most_path
no_sheet_refusal_longer segment n p = omega (arith, sheet_refusal_most segment n p)

pub no_path_refusal_longer : (n p : ℕ) → length (path_refusal n p) ≤ most_path
no_path_refusal_longer n p = omega (arith, path_refusal_most n p)
