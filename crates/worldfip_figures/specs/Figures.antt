-- Page 01, 'Numbered refusals' and 'WorldFIP table': what the table of a sheet goes by, before any row is built. Reading's refusals come first, then 3 for another
-- bus's sheet, then 10 and 11. Assumes nothing.
use Rattle.std.specs.Prelude.{ℕ, ◌-◌, List, [], ◌∷◌, not, eqb, ltb}
use Rattle.common.specs.Checks.{Check, check, verdict, refusal, unless}
use Rattle.common.specs.Runs.{tab}
use Rattle.common.specs.Sums.{when}
use Rattle.sheet_record.specs.Kinds.{worldfip}
use Rattle.sheet_rules.specs.Sheets.{Sheet, bus_in}
use Rattle.sheet_rules.specs.Whole.{Outcome}
use Rattle.sheet_rules.specs.Whole.Outcome.{Read, Not}
use Rattle.units.specs.Units.{us}
use Rattle.worldfip_rules.specs.Traffic.{Traffic, variable_of, identifier_at, microcycle, slots, rows, period_at}
use Rattle.worldfip_figures.specs.declared.Figures.{Figures}
use Rattle.worldfip_figures.specs.Declares.{traffic_of}
use Rattle.std.specs.declared.result.Result.{Result}
use Rattle.std.specs.declared.result.Result.TheVariants.{Err}
use Rattle.common.specs.declared.Refusal.{Refusal}

-- ---- The refusals, in the page's order

unfoldable pub figure_checks : Traffic → List Check
unfolding slots rows
figure_checks T =
    check 10 (eqb (slots T) 0) 0
    ∷ check 11 (ltb 4096 (rows T)) 0
    ∷ []

unfoldable pub sheet_checks : Sheet → List Check
unfolding traffic_of figure_checks
sheet_checks S = check 3 (not (eqb (bus_in S) worldfip)) 0 ∷ figure_checks (traffic_of S)

-- ---- The figures

-- the place in the sheet of the variable of rank r, from 0, and 0 past the last rank
unfoldable pub place_at : Traffic → ℕ → ℕ
unfolding variable_of
place_at T r = when (ltb r T.number) (variable_of T r - 1)

abbrev pub figures_by : Traffic → Figures
figures_by T =
    record {
      variables = T.number;
      microcycle = us (microcycle T);
      slots = slots T;
      rows = rows T;
      places = tab (place_at T) 64;
      periods = tab (period_at T) 65;
    }

unfoldable pub figures_of : Outcome → Result Figures Refusal
unfolding verdict sheet_checks traffic_of microcycle slots rows tab place_at period_at
figures_of (Read S) = unless (verdict (sheet_checks S)) (figures_by (traffic_of S))
figures_of (Not n p) = Err (refusal n p)

-- ---- Identifiers by rank, 64 of them; 0 past the last rank, and for all that is no WorldFIP sheet

unfoldable pub identifier_of : Outcome → ℕ → ℕ
unfolding traffic_of identifier_at
identifier_of (Read S) r = when (eqb (bus_in S) worldfip) (identifier_at (traffic_of S) r)
identifier_of (Not n p) r = 0
