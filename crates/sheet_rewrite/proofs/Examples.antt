-- Page 02, Ask 8: a ring of kind 3 with two masters, and what it is rewritten as. Assumes nothing.
use Prim.Native.Nat.{ℕ}
use mathlib.Core.Path.{◌≡◌, refl}
use mathlib.Core.List.{List, [], ◌∷◌}
use Rattle.sheet_rewrite.specs.Rewriting.{rewrite_answer, rewrite_bytes}
use Rattle.std.specs.declared.result.Result.TheVariants.{Ok, Err}
use Rattle.common.specs.Checks.{refusal}

-- 2 masters, L = 100, M = 9; a stream of master 1 with C = 8, D = 65,535
abbrev old : List ℕ
old =
    3 ∷ 2 ∷ 0 ∷ 0 ∷ 0 ∷ 100 ∷ 0 ∷ 0 ∷ 0 ∷ 9
    ∷ 4 ∷ 1 ∷ 0 ∷ 0 ∷ 0 ∷ 8 ∷ 0 ∷ 0 ∷ 255 ∷ 255 ∷ []

-- the ring, 9 for each master, and the stream
abbrev new : List ℕ
new =
    9 ∷ 2 ∷ 0 ∷ 0 ∷ 0 ∷ 100
    ∷ 10 ∷ 1 ∷ 0 ∷ 0 ∷ 0 ∷ 9
    ∷ 10 ∷ 2 ∷ 0 ∷ 0 ∷ 0 ∷ 9
    ∷ 4 ∷ 1 ∷ 0 ∷ 0 ∷ 0 ∷ 8 ∷ 0 ∷ 0 ∷ 255 ∷ 255 ∷ []

pub answered : rewrite_answer 28 old ≡ Ok 28
unfolding rewrite_answer
answered = refl

pub written : rewrite_bytes new old ≡ new
unfolding rewrite_bytes
written = refl

pub no_room : rewrite_answer 27 old ≡ Err (refusal 13 28)
unfolding rewrite_answer
no_room = refl

-- written again it stays as it is
pub again : rewrite_answer 28 new ≡ Ok 28
unfolding rewrite_answer
again = refl
