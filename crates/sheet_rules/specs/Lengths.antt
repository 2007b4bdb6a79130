-- Page 01, 'Sheet records', and page 02, Asks 7 and 10: how long an accepted sheet can be, and how much of any sheet reading looks at. Assumes nothing.
use Rattle.std.specs.Prelude.{ℕ, ◌+◌, ◌*◌, length}
use Rattle.common.specs.Sums.{greatest}
use Rattle.sheet_record.specs.Kinds.{kinds, size_of, pnet}
use Rattle.sheet_rules.specs.Sheets.{most_in_all}

-- the longest record of the pages' table: 16 bytes
unfoldable pub longest_record : ℕ
unfolding greatest size_of kinds
longest_record = greatest size_of (length kinds)

-- the longest sheet: a P-NET segment, its edition and 800 streams, 12,804 bytes
unfoldable pub longest_sheet : ℕ
unfolding size_of most_in_all longest_record
longest_sheet = size_of 1 + size_of 8 + most_in_all pnet * longest_record

-- that, and one record more, which is then one too many: 12,820 bytes
unfoldable pub enough : ℕ
unfolding longest_sheet longest_record
enough = longest_sheet + longest_record
