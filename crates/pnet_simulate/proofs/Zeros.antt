-- A run whose first places are 0. Assumes nothing.
use mathlib.Core.Path.{◌≡◌, refl}
use mathlib.Core.List.{List, ◌++◌}
use Prim.Native.Nat.{ℕ, zero, suc}
use native.Mathlib.Numerals.{add-one}
use lib.ListN.{drop, replicate}
use Rattle.std.proofs.lemmas.List.{replicate-append-replicate}
use Rattle.common.specs.Runs.{tab, filled}

zeros_tab : (n : ℕ) → tab (λ p. 0) n ≡ replicate n 0
unfolding tab
zeros_tab zero = refl
zeros_tab (suc n) = rw (zeros_tab n, replicate-append-replicate {A = ℕ} n 1 0, add-one n)

pub zeros_filled : (n : ℕ) (old zeros : List ℕ) → zeros ≡ replicate n 0 → zeros ++ drop n old ≡ filled (λ p. 0) n old
unfolding filled
zeros_filled n old zeros e = rw (e, zeros_tab n)
