-- Page 01, 'Sheets worked by hand': a table by computing, and equal periods by sheet order. Assumes nothing.
use mathlib.Core.Path.{◌≡◌, refl}
use mathlib.Core.List.{List, [], ◌∷◌}
use Prim.Native.Nat.{ℕ, ◌+◌, ◌-◌}
use lib.ListN.{length, get_or}
use Rattle.common.specs.Runs.{tab}
use Rattle.worldfip_rules.specs.Build.{row, miss_row, by_rank}
use Rattle.worldfip_rules.specs.Traffic.{Traffic, rank_of, slots, rows, asked_of, row_of, miss_of}

-- variables with these periods, identifiers falling, and one exchange of e
abbrev traffic : ℕ → List ℕ → Traffic
traffic e ps =
    record { exchange = e; number = length ps; variable = λ i. record { identifier = 100 - i; period = get_or ps (i - 1) 0 } }

-- E 400; periods 1,000, 2,000, 4,000, 4,000: slots 2, rows 3, 5, 3, 9
abbrev even : Traffic
even = traffic 400 (1000 ∷ 2000 ∷ 4000 ∷ 4000 ∷ [])

even_slots : slots even ≡ 2
unfolding slots
even_slots = refl

even_rows : tab (row_of even) (rows even) ≡ 3 ∷ 5 ∷ 3 ∷ 9 ∷ []
unfolding tab rows row by_rank asked_of
even_rows = refl

-- nobody misses, the end of row 3 included
even_passes : miss_of even ≡ 5
unfolding miss_row by_rank asked_of
even_passes = refl

-- the ranks of variables 1, 2, 3, 4
tie : tab (λ i. rank_of (traffic 300 (2000 ∷ 1000 ∷ 2000 ∷ 1000 ∷ [])) (i + 1)) 4 ≡ 2 ∷ 0 ∷ 3 ∷ 1 ∷ []
unfolding tab rank_of
tie = refl
