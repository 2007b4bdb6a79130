-- Page 01, 'Sheets worked by hand', and page 02, Ask 2: the table of the cases is right, by one test that the checker computes.
-- Assumes nothing.
use mathlib.Core.Path.{◌≡◌, refl}
use mathlib.Core.Bool.{true}
use Rattle.sheet_rules.specs.Sheets.{message_of}
use Rattle.worldfip_rules.specs.Build.{by_rank, row, miss_row}
use Rattle.worldfip_rules.specs.Traffic.{asked_of}
use Rattle.profibus_plan.specs.Planned as ring
use Rattle.worldfip_plan.specs.Answer as fip
use Rattle.demands_worked.specs.Cases.{cases, all_right}

pub every_case_is_right : all_right cases ≡ true
unfolding cases all_right message_of ring.plan_of fip.plan_of fip.run_of asked_of by_rank row miss_row
every_case_is_right = refl
