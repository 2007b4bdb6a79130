-- Runs that agree at the first n places make one report of n streams. Assumes nothing.
use mathlib.Core.Path.{◌≡◌, refl, ap, ◌∙◌}
use mathlib.Core.List.{List, ◌++◌}
use mathlib.Core.Bool.{Bool}
use Prim.Native.Nat.{ℕ}
use Rattle.text.specs.Text.{texts}
use Rattle.text.proofs.Writing.{texts_same}
use Rattle.report_faults.specs.Faults.{last_lines}
use Rattle.report_faults.proofs.Same.{Agree, last_same}
use Rattle.report_capture.specs.Shown.{stream_at, heading, capture_text}

module _ (n : ℕ) (above above' late late' answers answers' : ℕ → ℕ) (a : Agree n above above') (l : Agree n late late') (r : Agree n answers answers')
    (soon whose : ℕ) (broken urgent : Bool) where
  pub capture_same : (masters masters' bound bound' largest largest' left left' : ℕ → ℕ) → Agree n masters masters' → Agree n bound bound' → Agree n largest largest'
      → Agree n left left'
      → capture_text urgent masters bound largest answers above left late soon whose broken n ≡ capture_text urgent masters' bound' largest' answers' above' left' late' soon whose broken n
  unfolding capture_text stream_at
  capture_same masters masters' bound bound' largest largest' left left' m b g o =
      let lines : texts (stream_at masters bound largest answers above left) n ≡ texts (stream_at masters' bound' largest' answers' above' left') n =
      texts_same (stream_at masters bound largest answers above left) (stream_at masters' bound' largest' answers' above' left') n
      (λ i h. rw (m i h, b i h, g i h, r i h, a i h, o i h) refl) in
      ap (λ (t : List ℕ). heading urgent ++ (t ++ last_lines above late answers soon whose broken n)) lines
      ∙ ap (λ (t : List ℕ). heading urgent ++ (texts (stream_at masters' bound' largest' answers' above' left') n ++ t)) (last_same n above above' late late' answers answers' a l r soon whose broken)
