-- Page 02, 'Ask 11': what the report says, in the words in which pnet_urgent_rules: Refusals says when a sheet is refused, and when it is accepted. Assumes nothing.
use mathlib.Core.Path.{◌≡◌, refl, ap}
use mathlib.Core.Bool.{true}
use mathlib.Core.List.{List}
use mathlib.Core.Logic.{◌↔◌}
use Prim.Native.Nat.{ℕ}
use native.Mathlib.Omega.{arith}
use Rattle.sheet_rules.specs.Sheets.{Sheet}
use Rattle.sheet_rules.specs.Whole.{Outcome}
use Rattle.sheet_rules.specs.Whole.Outcome.{Read, Not}
use Rattle.pnet_rules.specs.Segment.{segment_of}
use Rattle.pnet_urgent_rules.specs.Planned.{urgently}
use Rattle.pnet_urgent_rules.specs.Refusals.{Given, Accepted}
use Rattle.pnet_urgent_rules.proofs.Refusals.{refused_exactly, accepted_exactly}
use Rattle.report_phrases.specs.Phrases.{refusal_text}
use Rattle.report_urgent.specs.Whole.{answer_text, is_read, streams_text, urgent_report, urgent_accepts}

module _ (s : List ℕ) where
  -- of a sheet that is refused, the number and the place
  pub says_the_refusal : {n p : ℕ} → Given s 800 n p → urgent_report s ≡ refusal_text n p
  unfolding urgent_report
  says_the_refusal {n} {p} g = ap answer_text ((refused_exactly s 800 n p).1 g)

  -- of one that is accepted, its streams
  pub says_the_streams : {H : Sheet} → Accepted s 800 H → urgent_report s ≡ streams_text (segment_of H)
  unfolding urgent_report
  says_the_streams {H} a = ap answer_text ((accepted_exactly s 800 H).1 a)

  pub accepts_exactly : (urgent_accepts s ≡ true) ↔ ((H : Sheet) × Accepted s 800 H)
  unfolding urgent_accepts
  accepts_exactly = (λ e. by (urgently s 800) refl e, λ a. ap is_read ((accepted_exactly s 800 a.0).1 a.1))
    where
      by : (o : Outcome) → urgently s 800 ≡ o → is_read o ≡ true → (H : Sheet) × Accepted s 800 H
      by (Read H) is e = (H, (accepted_exactly s 800 H).0 is)
      by (Not n p) is e = let z : ◌≡◌ {A = ℕ} 0 1 = cc in absurd (omega arith)
