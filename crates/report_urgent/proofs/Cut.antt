-- Of a sheet only what is read counts. So a bounded buffer serves: bytes behind its first 12,820 change neither the report nor whether it is accepted. Assumes nothing.
use mathlib.Core.Path.{◌≡◌, ap}
use mathlib.Core.List.{List}
use Prim.Native.Nat.{ℕ}
use lib.ListN.{take}
use Rattle.sheet_rules.specs.Lengths.{enough}
use Rattle.sheet_rules.specs.Whole.{Outcome, reading}
use Rattle.sheet_rules.proofs.Lengths.{reading_prefix}
use Rattle.pnet_urgent_rules.specs.Planned.{urgent_by, urgently}
use Rattle.report_urgent.specs.Whole.{answer_text, is_read, urgent_report, urgent_accepts}

module _ (s : List ℕ) where
  -- bytes that are read as s is
  module _ (k : List ℕ) (same : reading s ≡ reading k) where
    pub report_alike : urgent_report s ≡ urgent_report k
    unfolding urgent_report urgently
    report_alike = ap (λ (o : Outcome). answer_text (urgent_by o 800)) same

    pub accepts_alike : urgent_accepts s ≡ urgent_accepts k
    unfolding urgent_accepts urgently
    accepts_alike = ap (λ (o : Outcome). is_read (urgent_by o 800)) same

  -- its first bytes
  pub report_prefix : urgent_report s ≡ urgent_report (take enough s)
  report_prefix = report_alike (take enough s) (reading_prefix s)

  pub accepts_prefix : urgent_accepts s ≡ urgent_accepts (take enough s)
  accepts_prefix = accepts_alike (take enough s) (reading_prefix s)
