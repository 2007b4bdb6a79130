-- A run that nothing was stored in is zeros, and two of one length are equal. Assumes nothing.
use mathlib.Core.Path.{◌≡◌, sym, ◌∙◌}
use mathlib.Core.List.{List}
use Prim.Native.Nat.{ℕ}
use lib.ListN.{replicate, length-replicate}
use lib.Seq.{ext_get_or}
use Rattle.common.proofs.Runs.{zero_at}
use Rattle.text.specs.Text.{Zeros}

-- the element type is written out: left to be found, a long run would be computed
pub zeros : (n : ℕ) → Zeros n (replicate {0} {A = ℕ} n 0)
zeros n = record { long = sym {A = ℕ} (length-replicate {0} {A = ℕ} n 0); each = zero_at n }

-- rooms of one length are alike
pub zeros_alike : {n : ℕ} {a b : List ℕ} → Zeros n a → Zeros n b → a ≡ b
zeros_alike {a = a} {b = b} x y = ext_get_or 0 a b (sym x.long ∙ y.long) (λ i l. x.each i ∙ sym (y.each i))
