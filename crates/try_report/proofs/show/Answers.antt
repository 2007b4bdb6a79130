-- `try_report::show` writes as many bytes as the report has, which stand within the run. Assumes nothing.
use mathlib.Core.Logic.{⊎_elim}
use Rattle.std.proofs.Common.{ℕ, List, ◌≡◌, ◌≤◌, ◌⊎◌, arith, sym, ap, ◌∙◌}
use Rattle.std.proofs.lemmas.List.{length-take-le}
use Rattle.report_sheet.proofs.Longest.{written_within}
use Rattle.report_sheet.specs.Whole.{answer_of}
use Rattle.report_phrases.specs.declared.Reported.{Reported}
use Rattle.report_phrases.specs.declared.Reported.TheVariants as reported
use Rattle.std.specs.declared.option.Option.TheVariants.{Some}
use Rattle.try_report.proofs.show.Goals as goal

-- an accepted report and a refusal lie within the run
within : (s : List ℕ) (room : ℕ) (r : Reported) (n : ℕ) → Some r ≡ answer_of s room → (r ≡ reported.Accepted n) ⊎ (r ≡ reported.Refused n) → n ≤ room
within s room r n e = ⊎_elim (λ w. written_within s room _ (ap Some (sym w) ∙ e)) (λ w. written_within s room _ (ap Some (sym w) ∙ e))

pub slice_bounds-text-end : goal.slice_bounds-text-end
slice_bounds-text-end c = omega (arith, within _ _ _ _ (sym c.in-Some.is ∙ c.report.ensures.value) (c.in-Accepted.is), c.report.auto.out)

pub slice_bounds-say-end-in-Accepted : goal.slice_bounds-say-end-in-Accepted
slice_bounds-say-end-in-Accepted c =
    sym (length-take-le _ _ (omega (arith, within _ _ _ _ (sym c.in-Some.is ∙ c.report.ensures.value) (c.in-Accepted.is), c.report.auto.out)))
