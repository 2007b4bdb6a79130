-- A report that is stored in a run with room for every one: its length, and what the run then is. Assumes nothing.
use Prim.Native.Nat.{ℕ, ◌≤◌}
use mathlib.Core.Path.{◌≡◌}
use mathlib.Core.List.{List}
use native.Mathlib.Omega.{arith}
use lib.ListN.{length, length-append}
use Rattle.text.specs.Text.{word, Wrote, over}
use Rattle.text.proofs.Lengths.{decimal_any}
use Rattle.text.proofs.Writing.{wrote_front}
use Rattle.report_phrases.specs.Phrases.{refused_text, refusal_text}
use Rattle.report_phrases.proofs.Lengths.{refused_most}
use Rattle.report_capture.specs.Shown.{most_capture, capture_refusal}

pub stored : {t old new : List ℕ} {n : ℕ} → Wrote old 0 t new n → length t ≤ most_capture → length old ≡ most_capture → (n ≡ length t) × (new ≡ over t old)
stored w few long = wrote_front w (omega (arith, few, long))

-- a refusal has room
pub sheet_refusal_fits : (n p : ℕ) → length (refusal_text n p) ≤ most_capture
unfolding refusal_text
sheet_refusal_fits n p = omega (arith, length-append (refused_text n p) (word "\n"), refused_most n p)

pub capture_refusal_fits : (n p : ℕ) → length (capture_refusal n p) ≤ most_capture
unfolding capture_refusal
capture_refusal_fits n p = simp length-append (omega (arith, decimal_any n, decimal_any p))
