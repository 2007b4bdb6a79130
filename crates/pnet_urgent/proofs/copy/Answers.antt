use mathlib.Core.Path.{◌≡◌, ap, ◌∙◌}
use mathlib.Core.List.{List, ◌++◌}
use Prim.Native.Nat.{ℕ, ◌≤◌}
use native.Mathlib.Omega.{arith}
use lib.ListN.{length, take, drop}
use lib.Seq.{length-take-le, get_or-take}
use Rattle.common.specs.Runs.{filled}
use Rattle.common.proofs.Runs.{tab_places}
use Rattle.pnet_turn.specs.Turn.{at}
use Rattle.pnet_urgent.proofs.copy.Goals as goal

-- a run whose first n places are those of another is filled by it
fronted : (from to : List ℕ) (n : ℕ) → n ≤ length from → take n from ++ drop n to ≡ filled (at from) n to
unfolding filled
fronted from to n fits =
    ap (λ (l : List ℕ). l ++ drop n to) (tab_places (at from) (take n from) n (length-take-le n from fits) (λ i l. get_or-take n from i 0 l))

pub returns : goal.returns
returns c =
    let a = c.args in
    ap (λ (l : List ℕ). l ++ drop a.n a.to.now) c.copy_from_slice.ensures.after ∙ fronted a.from.now a.to.now a.n (omega arith)
