-- Page 01, 'Sheets worked by hand', the WorldFIP cases, from the sheets' bytes. Assumes nothing.
use Prim.Native.Nat.{ℕ}
use mathlib.Core.Path.{◌≡◌, refl}
use mathlib.Core.List.{List, [], ◌∷◌}
use Rattle.common.specs.Runs.{tab}
use Rattle.sheet_rules.specs.Sheets.{sheet_of}
use Rattle.sheet_rules.specs.Whole.{reading}
use Rattle.worldfip_rules.specs.Build.{row, miss_row, by_rank}
use Rattle.units.specs.Units.{us}
use Rattle.worldfip_rules.specs.Traffic.{asked_of}
use Rattle.worldfip_figures.specs.Figures.{identifier_of}
use Rattle.worldfip_plan.specs.Answer.{plan_of, run_of}
use Rattle.std.specs.declared.result.Result.TheVariants.{Ok, Err}
use Rattle.common.specs.Checks.{refusal}

-- a lent run of six places before the call
abbrev six : List ℕ
six = 7 ∷ 7 ∷ 7 ∷ 7 ∷ 7 ∷ 7 ∷ []

-- E 400; periods 1,000, 2,000, 4,000, 4,000 of identifiers 17, 18, 19, 20
abbrev even : List ℕ
even =
    5 ∷ 0 ∷ 0 ∷ 1 ∷ 144
    ∷ 6 ∷ 0 ∷ 17 ∷ 0 ∷ 0 ∷ 3 ∷ 232
    ∷ 6 ∷ 0 ∷ 18 ∷ 0 ∷ 0 ∷ 7 ∷ 208
    ∷ 6 ∷ 0 ∷ 19 ∷ 0 ∷ 0 ∷ 15 ∷ 160
    ∷ 6 ∷ 0 ∷ 20 ∷ 0 ∷ 0 ∷ 15 ∷ 160
    ∷ []

even_plan : plan_of (reading even) 6 ≡ Ok (record { microcycle = (us 1000); slots = 2; rows = 4 })
unfolding plan_of reading sheet_of row miss_row by_rank asked_of
even_plan = refl

even_rows : run_of (reading even) six ≡ 3 ∷ 5 ∷ 3 ∷ 9 ∷ 7 ∷ 7 ∷ []
unfolding run_of reading sheet_of row miss_row by_rank asked_of
even_rows = refl

even_names : tab (identifier_of (reading even)) 6 ≡ 17 ∷ 18 ∷ 19 ∷ 20 ∷ 0 ∷ 0 ∷ []
unfolding tab identifier_of reading sheet_of
even_names = refl

-- with the third at 2,000: refused, 12, variable 4
abbrev full : List ℕ
full =
    5 ∷ 0 ∷ 0 ∷ 1 ∷ 144
    ∷ 6 ∷ 0 ∷ 17 ∷ 0 ∷ 0 ∷ 3 ∷ 232
    ∷ 6 ∷ 0 ∷ 18 ∷ 0 ∷ 0 ∷ 7 ∷ 208
    ∷ 6 ∷ 0 ∷ 19 ∷ 0 ∷ 0 ∷ 7 ∷ 208
    ∷ 6 ∷ 0 ∷ 20 ∷ 0 ∷ 0 ∷ 15 ∷ 160
    ∷ []

full_plan : plan_of (reading full) 6 ≡ Err (refusal 12 4)
unfolding plan_of reading sheet_of miss_row by_rank asked_of
full_plan = refl

full_run : run_of (reading full) six ≡ six
unfolding run_of reading sheet_of row miss_row by_rank asked_of
full_run = refl

-- E 210; periods 1,000 four times, then 3,000: refused, 12, variable 5
abbrev source004 : List ℕ
source004 =
    5 ∷ 0 ∷ 0 ∷ 0 ∷ 210
    ∷ 6 ∷ 0 ∷ 1 ∷ 0 ∷ 0 ∷ 3 ∷ 232
    ∷ 6 ∷ 0 ∷ 2 ∷ 0 ∷ 0 ∷ 3 ∷ 232
    ∷ 6 ∷ 0 ∷ 3 ∷ 0 ∷ 0 ∷ 3 ∷ 232
    ∷ 6 ∷ 0 ∷ 4 ∷ 0 ∷ 0 ∷ 3 ∷ 232
    ∷ 6 ∷ 0 ∷ 5 ∷ 0 ∷ 0 ∷ 11 ∷ 184
    ∷ []

source004_plan : plan_of (reading source004) 6 ≡ Err (refusal 12 5)
unfolding plan_of reading sheet_of miss_row by_rank asked_of
source004_plan = refl

-- the same with room for two rows: 13 comes before 12, with the rows that it needs
source004_room : plan_of (reading source004) 2 ≡ Err (refusal 13 3)
unfolding plan_of reading sheet_of miss_row by_rank asked_of
source004_room = refl

-- ---- Equal periods go by sheet order: E 300; periods 2,000, 1,000, 2,000, 1,000 of identifiers 9, 8, 7, 6

abbrev falling : List ℕ
falling =
    5 ∷ 0 ∷ 0 ∷ 1 ∷ 44
    ∷ 6 ∷ 0 ∷ 9 ∷ 0 ∷ 0 ∷ 7 ∷ 208
    ∷ 6 ∷ 0 ∷ 8 ∷ 0 ∷ 0 ∷ 3 ∷ 232
    ∷ 6 ∷ 0 ∷ 7 ∷ 0 ∷ 0 ∷ 7 ∷ 208
    ∷ 6 ∷ 0 ∷ 6 ∷ 0 ∷ 0 ∷ 3 ∷ 232
    ∷ []

falling_names : tab (identifier_of (reading falling)) 4 ≡ 8 ∷ 6 ∷ 9 ∷ 7 ∷ []
unfolding tab identifier_of reading sheet_of
falling_names = refl

falling_rows : run_of (reading falling) six ≡ 7 ∷ 11 ∷ 7 ∷ 7 ∷ 7 ∷ 7 ∷ []
unfolding run_of reading sheet_of row miss_row by_rank asked_of
falling_rows = refl
