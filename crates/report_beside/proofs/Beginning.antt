-- What beginning with a sheet answers, from what the sheet gives. Assumes nothing.
use Prim.Native.Nat.{ℕ}
use mathlib.Core.Path.{◌≡◌, refl, sym, ap, ◌∙◌}
use mathlib.Core.List.{List}
use mathlib.Core.Bool.{Bool}
use native.Mathlib.Omega.{arith}
use lib.ListN.{length}
use Rattle.sheet_rules.specs.Whole.{Outcome}
use Rattle.sheet_rules.specs.Whole.Outcome.{Read, Not}
use Rattle.pnet_plan.specs.Planned.{plan_of}
use Rattle.capture_compare.proofs.Beside.{told_refused}
use Rattle.capture_ages.specs.declared.Watch.{Watch}
use Rattle.capture_ages.specs.Clock.{began}
use Rattle.report_phrases.specs.Phrases.{refusal_text}
use Rattle.report_beside.specs.declared.Begun.TheVariants as begun
use Rattle.text.specs.Text.{over}
use Rattle.report_beside.specs.Steps.{begun_as, begun_text}
use Rattle.std.specs.declared.result.Result.TheVariants.{Ok, Err}
use Rattle.common.specs.Checks.{refusal}
use Rattle.common.proofs.Answered.{accepts_alike}
use Rattle.pnet_plan.specs.declared.answer.Plan.{Plan}

module _ (urgent : Bool) (old : List ℕ) where
  pub begun_on : (o : Outcome) (m n : ℕ) (w : Watch) → plan_of o ≡ Ok (record { masters = m; streams = n }) → w ≡ began
      → (begun.On (record { urgent = urgent; streams = n; bytes = 0; watch = w }) ≡ begun_as urgent o) × (old ≡ begun_text o old)
  begun_on (Read H) m n w e q =
      let number : n ≡ length H.streams = sym (ap (λ (x : Plan). x.streams) (accepts_alike e)) in
      (rw (number, q) refl, refl)
  begun_on (Not a b) m n w e q = let z : ◌≡◌ {A = ℕ} 0 1 = cc in absurd (omega arith)

  pub begun_refused : (o : Outcome) (n p length' : ℕ) (new : List ℕ) → plan_of o ≡ Err (refusal n p) → length' ≡ length (refusal_text n p) → new ≡ over (refusal_text n p) old
      → (begun.Refused length' ≡ begun_as urgent o) × (new ≡ begun_text o old)
  begun_refused o n p length' new e l w =
      let r = told_refused o n p e in
      (ap begun.Refused l ∙ ap (begun_as urgent) (sym r), w ∙ ap (λ (x : Outcome). begun_text x old) (sym r))
