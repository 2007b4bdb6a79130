-- Page 01, 'Sheets worked by hand', the fourth case, from the sheet's bytes: TTR 2,500, limited by stream 1; and page 02, Ask 8: the same ring by kinds 9 and 10,
-- and one whose masters have messages of their own. Assumes nothing.
use Prim.Native.Nat.{ℕ}
use mathlib.Core.Path.{◌≡◌, refl}
use mathlib.Core.List.{List, [], ◌∷◌}
use Rattle.sheet_rules.specs.Sheets.{sheet_of, message_of}
use Rattle.sheet_rules.specs.Whole.{reading}
use Rattle.profibus_plan.specs.Planned.{plan_at, plan_of}
use Rattle.std.specs.declared.result.Result.TheVariants.{Ok}

-- master 1: C 400 D 8,400 and C 500 D 10,000; master 2: C 300 D 5,000
abbrev streams : List ℕ
streams =
    4 ∷ 1 ∷ 0 ∷ 0 ∷ 1 ∷ 144 ∷ 0 ∷ 0 ∷ 32 ∷ 208
    ∷ 4 ∷ 1 ∷ 0 ∷ 0 ∷ 1 ∷ 244 ∷ 0 ∷ 0 ∷ 39 ∷ 16
    ∷ 4 ∷ 2 ∷ 0 ∷ 0 ∷ 1 ∷ 44 ∷ 0 ∷ 0 ∷ 19 ∷ 136
    ∷ []

-- n 3, L 300, M 500
abbrev three : List ℕ
three = 3 ∷ 3 ∷ 0 ∷ 0 ∷ 1 ∷ 44 ∷ 0 ∷ 0 ∷ 1 ∷ 244 ∷ streams

answer : plan_of (reading three) ≡ Ok (plan_at 2500 1)
unfolding plan_of reading sheet_of message_of
answer = refl

-- n 3, L 300, and the longest messages of masters 1, 2 and 3, each below 65,536
abbrev open_ring : ℕ → ℕ → ℕ → ℕ → ℕ → ℕ → List ℕ
open_ring h l h' l' h'' l'' =
    9 ∷ 3 ∷ 0 ∷ 0 ∷ 1 ∷ 44 ∷ 10 ∷ 1 ∷ 0 ∷ 0 ∷ h ∷ l ∷ 10 ∷ 2 ∷ 0 ∷ 0 ∷ h' ∷ l' ∷ 10 ∷ 3 ∷ 0 ∷ 0 ∷ h'' ∷ l'' ∷ streams

-- 500 for each
again : plan_of (reading (open_ring 1 244 1 244 1 244)) ≡ Ok (plan_at 2500 1)
unfolding plan_of reading sheet_of message_of
again = refl

-- 500, 300 and 100
own : plan_of (reading (open_ring 1 244 1 44 0 100)) ≡ Ok (plan_at 3100 1)
unfolding plan_of reading sheet_of message_of
own = refl
