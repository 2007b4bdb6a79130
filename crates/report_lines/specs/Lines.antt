-- Page 01, 'Sheets worked by hand': the report's lines, each ended by one newline. Words do not change with the count. Assumes nothing.
use Rattle.std.specs.Prelude.{ℕ, ◌/◌, ◌%◌, ◌^◌, List, [], cond, eqb}
use Rattle.units.specs.declared.BitPeriods.{BitPeriods}
use Rattle.units.specs.declared.Micros.{Micros}
use Rattle.units.specs.declared.RingPeriods.{RingPeriods}
use Rattle.text.specs.Text.{word, decimal, ◌·◌, texts}
use Rattle.report_phrases.specs.Phrases.{in_us, two_counts, name_of}

-- ---- P-NET

-- the line of master k: R and W, and the rounds of the search for W
unfoldable pub master_line : ℕ → BitPeriods → BitPeriods → ℕ → List ℕ
master_line k bound refined rounds =
    name_of k · two_counts (word " bound ") bound (word " refined ") refined · word " " · decimal rounds · word " rounds\n"

-- a master without streams, whose bound is 0, has no line
unfoldable pub master_text : ℕ → BitPeriods → BitPeriods → ℕ → List ℕ
master_text k bound refined rounds = cond (eqb bound.0 0) [] (master_line k bound refined rounds)

-- ---- PROFIBUS

-- the rotation time, in bp of that ring, and the stream that limits it
unfoldable pub ring_text : RingPeriods → ℕ → List ℕ
ring_text rotation stream =
    word "PROFIBUS ring\n" · word "TTR " · decimal rotation.0 · word " bp" · word " limited by stream " · decimal stream · word "\n"

-- ---- WorldFIP

-- an identifier, if its bit is set
unfoldable pub name_text : ℕ → ℕ → List ℕ
name_text bit name = cond (eqb bit 1) (word " " · decimal name) []

-- the identifier of rank r, if bit r of the row is set
unfoldable pub name_at : ℕ → (ℕ → ℕ) → ℕ → List ℕ
name_at row name r = name_text (row / 2 ^ r % 2) (name r)

-- row m: the identifiers of the ranks that it serves, of the 64, best first
unfoldable pub row_line : ℕ → ℕ → (ℕ → ℕ) → List ℕ
row_line m row name = word "row " · decimal m · word ":" · texts (name_at row name) 64 · word "\n"

-- the first two lines
unfoldable pub table_head : Micros → ℕ → ℕ → List ℕ
table_head microcycle slots rows =
    word "WorldFIP table\n" · word "microcycle " · in_us microcycle · word " " · decimal slots · word " slots" · word " " · decimal rows · word " rows\n"
