-- Of each sheet of a path only what is read counts. So a bounded buffer serves: bytes behind its first 12,820 change neither the path's report nor whether
-- it is accepted. Assumes nothing.
use mathlib.Core.Path.{◌≡◌, refl, ap, ◌∙◌, fun_ext}
use mathlib.Core.Bool.{Bool}
use Prim.Native.Nat.{ℕ, zero, suc}
use mathlib.Core.List.{List}
use lib.ListN.{take}
use Rattle.sheet_rules.specs.Lengths.{enough}
use Rattle.sheet_rules.specs.Whole.{Outcome, reading}
use Rattle.sheet_rules.proofs.Lengths.{reading_prefix}
use Rattle.units.specs.Units.{bp}
use Rattle.units.specs.declared.BitPeriods.{BitPeriods}
use Rattle.pnet_bounds.specs.Bounded.{bounded, bounded_by}
use Rattle.pnet_crossing.specs.Cost.{crossing_by}
use Rattle.pnet_path.specs.Path.{Path, gateways, sheet_at, bound_from, bound_at, sender_at, forwarding_at, absent_from, absent_at, refused_or, crossed_from, crossed}
use Rattle.report_path.specs.Told.{path_text}
use Rattle.report_path.specs.Report.{path_lines, answer_text, sheet_or, report_from, path_report, is_within, path_accepts}
use Rattle.std.specs.declared.result.Result.TheVariants.{Ok, Err}
use Rattle.std.specs.declared.result.Result.{Result}
use Rattle.common.specs.declared.Refusal.{Refusal}

-- the path with other bytes for its sheets
abbrev pub keeping : Path → (ℕ → List ℕ) → Path
keeping P k = record {
  segments = P.segments;
  hop = λ i. record { forwarding = (P.hop i).forwarding; sheet = k i; sender = (P.hop i).sender };
  deadline = P.deadline;
}

-- bytes that are read as its sheets are
module _ (P : Path) (k : ℕ → List ℕ) (same : (i : ℕ) → reading (P.hop i).sheet ≡ reading (k i)) where
  abbrev Q : Path
  Q = keeping P k

  sheet_alike : (i : ℕ) → sheet_at P i ≡ sheet_at Q i
  unfolding sheet_at bounded
  sheet_alike i = ap (λ (o : Outcome). bounded_by o 800) (same i)

  bounds_alike : bound_at P ≡ bound_at Q
  unfolding bound_at
  bounds_alike = fun_ext (λ i. ap (λ (o : Outcome). bound_from o (P.hop i).sender) (sheet_alike i))

  absent_alike : absent_at P ≡ absent_at Q
  unfolding absent_at
  absent_alike = fun_ext (λ i. ap (λ (o : Outcome). absent_from o (P.hop i).sender) (sheet_alike i))

  -- ---- The answer

  crossed_from_alike : (n i : ℕ) → crossed_from P n i ≡ crossed_from Q n i
  unfolding crossed_from forwarding_at
  crossed_from_alike zero i =
      ap (λ (R : ℕ → ℕ). crossing_by R (forwarding_at P) (absent_at P) (gateways P) P.deadline) bounds_alike
      ∙ ap (λ (a : ℕ → Bool). crossing_by (bound_at Q) (forwarding_at P) a (gateways P) P.deadline) absent_alike
  crossed_from_alike (suc n) i =
      ap (λ (o : Outcome). refused_or o (crossed_from P n (suc i))) (sheet_alike i) ∙ ap (refused_or (sheet_at Q i)) (crossed_from_alike n (suc i))

  crossed_alike : crossed P ≡ crossed Q
  unfolding crossed
  crossed_alike = crossed_from_alike P.segments 1

  -- ---- The report

  text_alike : (c : Result BitPeriods Refusal) → answer_text P c ≡ answer_text Q c
  unfolding path_lines sender_at forwarding_at
  text_alike (Ok cost) =
      ap (λ (R : ℕ → ℕ). path_text (sender_at P) (λ i. bp (R i)) (λ i. bp (forwarding_at P i)) (gateways P) cost (bp P.deadline)) bounds_alike
  text_alike (Err r) = refl

  report_from_alike : (n i : ℕ) → report_from P n i ≡ report_from Q n i
  unfolding report_from
  report_from_alike zero i = text_alike (crossed P) ∙ ap (answer_text Q) crossed_alike
  report_from_alike (suc n) i =
      ap (λ (o : Outcome). sheet_or i o (report_from P n (suc i))) (sheet_alike i) ∙ ap (sheet_or i (sheet_at Q i)) (report_from_alike n (suc i))

  pub report_alike : path_report P ≡ path_report (keeping P k)
  unfolding path_report
  report_alike = report_from_alike P.segments 1

  pub accepts_alike : path_accepts P ≡ path_accepts (keeping P k)
  unfolding path_accepts
  accepts_alike = ap is_within crossed_alike

-- ---- The first bytes of each

-- the path with each of its sheets cut
abbrev pub cut : Path → Path
cut P = keeping P (λ i. take enough (P.hop i).sheet)

module _ (P : Path) where
  pub report_prefix : path_report P ≡ path_report (cut P)
  report_prefix = report_alike P (λ i. take enough (P.hop i).sheet) (λ i. reading_prefix (P.hop i).sheet)

  pub accepts_prefix : path_accepts P ≡ path_accepts (cut P)
  accepts_prefix = accepts_alike P (λ i. take enough (P.hop i).sheet) (λ i. reading_prefix (P.hop i).sheet)
