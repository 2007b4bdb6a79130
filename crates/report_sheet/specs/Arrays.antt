-- Page 01, 'Sheets worked by hand': the lines of a P-NET report, read off the three runs that planning fills. Assumes nothing.
use Rattle.std.specs.Prelude.{ℕ, ◌+◌, List}
use Rattle.units.specs.Units.{bp}
use Rattle.text.specs.Text.{word, ◌·◌, texts}
use Rattle.report_lines.specs.Lines.{master_text}

-- the master at index i of R, W and rounds
unfoldable pub master_at : (ℕ → ℕ) → (ℕ → ℕ) → (ℕ → ℕ) → ℕ → List ℕ
master_at R W rounds i = master_text (i + 1) (bp (R i)) (bp (W i)) (rounds i)

-- the lines of n masters behind their heading
unfoldable pub segment_text : (ℕ → ℕ) → (ℕ → ℕ) → (ℕ → ℕ) → ℕ → List ℕ
segment_text R W rounds n = word "P-NET segment\n" · texts (master_at R W rounds) n
