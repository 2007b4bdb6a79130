-- Page 01, 'Numbered refusals': which bytes are a P-NET sheet, the condition of every refusal behind 3. Assumes nothing.
use Rattle.std.specs.Prelude.{ℕ, ◌≡◌, List}
use Rattle.sheet_record.specs.Kinds.{pnet}
use Rattle.sheet_rules.specs.Sheets.{Sheet, bus_in}
use Rattle.sheet_rules.specs.Whole.{reading}
use Rattle.sheet_rules.specs.Whole.Outcome.{Read}

-- the bytes s read as the sheet H, which is a P-NET sheet
pub record OnBus (s : List ℕ) (H : Sheet) : Type 0 where
  pub reads : reading s ≡ Read H
  pub pnet : bus_in H ≡ pnet
