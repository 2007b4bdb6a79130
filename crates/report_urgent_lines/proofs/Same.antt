-- Runs that agree at the first n places make one report of n streams, where the first late one is a stream's number. Assumes nothing.
use mathlib.Core.Path.{◌≡◌, refl, ap, ◌∙◌}
use mathlib.Core.List.{List, [], ◌++◌}
use mathlib.Core.Bool.{Bool, true, false, cond}
use Prim.Native.Nat.{ℕ, ◌-◌, ◌≤◌}
use native.Mathlib.Omega.{arith}
use lib.Dec.{leb}
use borrow.Author.Tests.{leb-true}
use Rattle.units.specs.Units.{bp}
use Rattle.units.specs.declared.BitPeriods.{BitPeriods}
use Rattle.text.specs.Text.{word, texts}
use Rattle.text.proofs.Writing.{texts_same}
use Rattle.report_faults.proofs.Same.{Agree}
use Rattle.report_urgent_lines.specs.Lines.{stream_at, late_line, late_text, urgent_text}

module _ (n : ℕ) (figures figures' deadlines deadlines' : ℕ → ℕ) (x : Agree n figures figures') (d : Agree n deadlines deadlines') (late : ℕ) (from-1 : 1 ≤ late)
    (bound : BitPeriods) where
  late_same : late_text figures deadlines late bound n ≡ late_text figures' deadlines' late bound n
  unfolding late_text
  late_same = by (leb late n) refl
    where
      by : (b : Bool) → leb late n ≡ b
          → cond b (late_line late bound (bp (figures (late - 1))) (bp (deadlines (late - 1)))) []
          ≡ cond b (late_line late bound (bp (figures' (late - 1))) (bp (deadlines' (late - 1)))) []
      by false e = refl
      by true e = rw (x (late - 1) (omega (arith, leb-true late n e)), d (late - 1) (omega (arith, leb-true late n e))) refl

  pub urgent_same : (masters masters' places places' rounds rounds' : ℕ → ℕ) → Agree n masters masters' → Agree n places places' → Agree n rounds rounds'
      → urgent_text masters places figures rounds deadlines late bound n ≡ urgent_text masters' places' figures' rounds' deadlines' late bound n
  unfolding urgent_text stream_at
  urgent_same masters masters' places places' rounds rounds' m p r =
      let lines : texts (stream_at masters places figures rounds deadlines) n ≡ texts (stream_at masters' places' figures' rounds' deadlines') n =
      texts_same (stream_at masters places figures rounds deadlines) (stream_at masters' places' figures' rounds' deadlines') n
      (λ i h. rw (m i h, p i h, x i h, r i h, d i h) refl) in
      ap (λ (t : List ℕ). word "P-NET urgent first\n" ++ (t ++ late_text figures deadlines late bound n)) lines
      ∙ ap (λ (t : List ℕ). word "P-NET urgent first\n" ++ (texts (stream_at masters' places' figures' rounds' deadlines') n ++ t)) late_same
