-- Page 02, 'Ask 4': the text of a path that is accepted, line by line. Assumes nothing.
use Rattle.std.specs.Prelude.{ℕ, ◌+◌, List}
use Rattle.units.specs.declared.BitPeriods.{BitPeriods}
use Rattle.text.specs.Text.{word, ◌·◌, texts}
use Rattle.report_path_lines.specs.Lines.{segment_line, gateway_line, total_line}

-- no path's report is longer
abbrev pub most_path : ℕ
most_path = 987

-- gateway i + 1, and the segment behind it: masters and bounds are told by the segment, times by the gateway
unfoldable pub hop_lines : (ℕ → ℕ) → (ℕ → BitPeriods) → (ℕ → BitPeriods) → ℕ → List ℕ
hop_lines masters bounds times i = gateway_line (i + 1) (times (i + 1)) · segment_line (i + 2) (masters (i + 2)) (bounds (i + 2))

-- of a path with g gateways
unfoldable pub path_text : (ℕ → ℕ) → (ℕ → BitPeriods) → (ℕ → BitPeriods) → ℕ → BitPeriods → BitPeriods → List ℕ
path_text masters bounds times g total deadline =
    word "P-NET path\n" · segment_line 1 (masters 1) (bounds 1) · texts (hop_lines masters bounds times) g · total_line total deadline
