-- Of the sheet that a capture is laid beside, only what is read counts. So a bounded buffer serves: bytes behind its first 12,820 change neither the
-- report nor how the call ends. Of the capture every byte counts. Assumes nothing.
use mathlib.Core.Path.{◌≡◌, ap}
use mathlib.Core.List.{List}
use mathlib.Core.Bool.{Bool, true, false}
use Prim.Native.Nat.{ℕ}
use lib.ListN.{take}
use Rattle.sheet_rules.specs.Lengths.{enough}
use Rattle.sheet_rules.specs.Whole.{Outcome, reading}
use Rattle.sheet_rules.proofs.Lengths.{reading_prefix}
use Rattle.pnet_bounds.specs.Bounded.{bounded_by, bounded}
use Rattle.pnet_urgent_rules.specs.Planned.{urgent_by, urgently}
use Rattle.capture_tally.specs.Pieces.{most}
use Rattle.report_beside.specs.Whole.{laid, laid_report, laid_clean, beside_report, beside_clean}

-- under both rules
laid_alike : (urgent : Bool) (s k : List ℕ) → reading s ≡ reading k → laid urgent s ≡ laid urgent k
unfolding bounded urgently
laid_alike true s k same = ap (λ (o : Outcome). urgent_by o most) same
laid_alike false s k same = ap (λ (o : Outcome). bounded_by o most) same

module _ (urgent : Bool) (s c : List ℕ) where
  -- bytes that are read as s is
  module _ (k : List ℕ) (same : reading s ≡ reading k) where
    pub report_alike : beside_report urgent s c ≡ beside_report urgent k c
    unfolding beside_report
    report_alike = ap (λ (o : Outcome). laid_report urgent o c) (laid_alike urgent s k same)

    pub clean_alike : beside_clean urgent s c ≡ beside_clean urgent k c
    unfolding beside_clean
    clean_alike = ap (λ (o : Outcome). laid_clean urgent o c) (laid_alike urgent s k same)

  -- its first bytes
  pub report_prefix : beside_report urgent s c ≡ beside_report urgent (take enough s) c
  report_prefix = report_alike (take enough s) (reading_prefix s)

  pub clean_prefix : beside_clean urgent s c ≡ beside_clean urgent (take enough s) c
  clean_prefix = clean_alike (take enough s) (reading_prefix s)
