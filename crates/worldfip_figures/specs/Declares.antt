-- Page 01, 'Sheet records': what a WorldFIP sheet declares. Assumes nothing.
use Rattle.std.specs.Prelude.{ℕ, ◌-◌, List, length, get_or}
use Rattle.sheet_record.specs.declared.Record.{Record}
use Rattle.sheet_record.specs.Kinds.{nothing}
use Rattle.sheet_rules.specs.Sheets.{Sheet}
use Rattle.worldfip_rules.specs.Traffic.{Variable, Traffic}

-- a variable's fields
abbrev pub variable_by : Record → Variable
variable_by r = record { identifier = r.a; period = r.b }

-- variable i of a list of records, counted from 1
unfoldable pub variable_at : List Record → ℕ → Variable
variable_at rs i = variable_by (get_or rs (i - 1) nothing)

unfoldable pub traffic_of : Sheet → Traffic
unfolding variable_at
traffic_of S = record { exchange = S.head.a; number = length S.streams; variable = variable_at S.streams }
