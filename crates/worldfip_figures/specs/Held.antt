-- What the code holds of a sheet, in arrays that count from 0. Assumes nothing.
use Rattle.std.specs.Prelude.{◌≡◌, List, ℕ, ◌+◌, ◌-◌, ◌/◌, ◌≤◌, ◌<◌, length, get_or, ltb}
use Rattle.common.specs.Sums.{when}
use Rattle.common.specs.Checks.{verdict, unless}
use Rattle.common.specs.Runs.{tab}
use Rattle.worldfip_rules.specs.Traffic.{Traffic, Declared, plain, variable_of, microcycle, slots, rows, period_at}
use Rattle.worldfip_figures.specs.declared.Figures.{Figures}
use Rattle.worldfip_figures.specs.Figures.{figure_checks, place_at, figures_by}
use Rattle.std.specs.declared.result.Result.{Result}
use Rattle.common.specs.declared.Refusal.{Refusal}

-- entry i of an array, counted from 1
unfoldable pub numbered : List ℕ → ℕ → ℕ
numbered ps i = get_or ps (i - 1) 0

-- the first n periods of an array and one exchange of e, the identifiers left out
unfoldable pub held : List ℕ → ℕ → ℕ → Traffic
unfolding plain numbered
held ps n e = plain e n (numbered ps)

-- these arrays hold a sheet's periods, within the page's ranges
pub record Sheeted (ps : List ℕ) (n e : ℕ) : Type 0 where
  pub there : n ≤ length ps
  pub declares : Declared (held ps n e)

-- what its table goes by, past refusal 3
unfoldable pub measured : Traffic → Result Figures Refusal
unfolding verdict figure_checks microcycle slots rows tab place_at period_at
measured T = unless (verdict (figure_checks T)) (figures_by T)

-- at most 64 periods, none shorter than c, which is not 0
pub record Whole (ps : List ℕ) (n c : ℕ) : Type 0 where
  pub few : n ≤ 64
  pub there : n ≤ length ps
  pub some : 0 < c
  pub long : (i : ℕ) → 1 ≤ i → i ≤ n → 0 < numbered ps i / c

-- ---- By rank

-- v holds the places of n variables: at rank r that of the variable of rank r; 0 past the last rank
pub record Placed (ps : List ℕ) (n : ℕ) (v : List ℕ) : Type 0 where
  pub long : length v ≡ 64
  pub are : (r : ℕ) → r < n → get_or v r 0 + 1 ≡ variable_of (held ps n 0) r
  pub rest : (r : ℕ) → n ≤ r → get_or v r 0 ≡ 0

-- places below n
pub record Within (v : List ℕ) (n : ℕ) : Type 0 where
  pub long : length v ≡ 64
  pub below : (r : ℕ) → r < n → get_or v r 0 < n

-- q holds f of these places, by rank; 0 past the last rank
pub record Ranked (f : ℕ → ℕ) (v : List ℕ) (n : ℕ) (q : List ℕ) : Type 0 where
  pub are : (r : ℕ) → get_or q r 0 ≡ when (ltb r n) (f (get_or v r 0))

-- ---- From the bytes of a sheet to these arrays

-- identifiers and periods in sheet order; both are 0 behind the last
pub record Gathered (T : Traffic) (names periods : List ℕ) : Type 0 where
  pub names_long : length names ≡ 64
  pub periods_long : length periods ≡ 64
  pub names_are : (i : ℕ) → get_or names i 0 ≡ (T.variable (i + 1)).identifier
  pub periods_are : (i : ℕ) → get_or periods i 0 ≡ (T.variable (i + 1)).period
