-- Page 01, 'Numbered refusals' 3, 10, 11, 12 and 13, in the page's own words: what the planner answers to a sheet that reads without
-- refusal, lent a run of so many places. A line for each answer; each takes in that none before it is given. Assumes nothing.
use Rattle.std.specs.Prelude.{◌≡◌, ℕ, ◌≤◌, ◌<◌}
use Rattle.sheet_record.specs.Kinds.{worldfip}
use Rattle.sheet_rules.specs.Sheets.{Sheet, bus_in}
use Rattle.worldfip_rules.specs.Table.{Table}
use Rattle.units.specs.Units.{us}
use Rattle.worldfip_rules.specs.Traffic.{Traffic, microcycle, slots, rows, asked_of, row_of}
use Rattle.worldfip_rules.specs.Misses.{Named}
use Rattle.worldfip_figures.specs.Declares.{traffic_of}
use Rattle.worldfip_plan.specs.declared.answer.Plan.{Plan}
use Rattle.std.specs.declared.result.Result.TheVariants.{Ok, Err}
use Rattle.common.specs.Checks.{refusal}
use Rattle.std.specs.declared.result.Result.{Result}
use Rattle.common.specs.declared.Refusal.{Refusal}

-- one exchange at least fits a microcycle
pub record Fits (T : Traffic) : Type 0 where
  pub exchange : T.exchange ≤ microcycle T

-- and there are at most 4,096 rows
pub record Few (T : Traffic) : Type 0 where
  pub fits : Fits T
  pub most : rows T ≤ 4096

-- and the lent run has room for them
pub record Room (T : Traffic) (room : ℕ) : Type 0 where
  pub few : Few T
  pub lent : rows T ≤ room

pub data Answers (S : Sheet) (room : ℕ) : Result Plan Refusal → Type 0 where
  -- 3: another bus's sheet
  another_bus : (bus_in S ≡ worldfip → ⊥) → Answers S room (Err (refusal 3 0))
  -- 10: no exchange fits a microcycle
  none_fits : bus_in S ≡ worldfip → microcycle (traffic_of S) < (traffic_of S).exchange → Answers S room (Err (refusal 10 0))
  -- 11: more than 4,096 rows
  too_many : bus_in S ≡ worldfip → Fits (traffic_of S) → 4096 < rows (traffic_of S) → Answers S room (Err (refusal 11 0))
  -- 13: lent room too short, place the length needed
  too_short : bus_in S ≡ worldfip → Few (traffic_of S) → room < rows (traffic_of S) → Answers S room (Err (refusal 13 (rows (traffic_of S))))
  -- 12: a variable misses its period, place that variable's number
  misses : (i : ℕ) → bus_in S ≡ worldfip → Room (traffic_of S) room → Named (traffic_of S) i → Answers S room (Err (refusal 12 i))
  -- else the rows are a table
  table : bus_in S ≡ worldfip → Room (traffic_of S) room → ((i : ℕ) → Named (traffic_of S) i → ⊥) → Table (asked_of (traffic_of S)) (row_of (traffic_of S))
      → Answers S room (Ok (record { microcycle = (us (microcycle (traffic_of S))); slots = (slots (traffic_of S)); rows = (rows (traffic_of S)) }))
