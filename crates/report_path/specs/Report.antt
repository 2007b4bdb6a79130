-- Page 02, 'Ask 4': the whole report of a path, from its sheets and the words that go with them, and whether the path is accepted.
-- Assumes nothing.
use Rattle.std.specs.Prelude.{ℕ, zero, suc, List, Bool, true, false}
use Rattle.sheet_rules.specs.Whole.{Outcome}
use Rattle.sheet_rules.specs.Whole.Outcome.{Read, Not}
use Rattle.units.specs.Units.{bp}
use Rattle.units.specs.declared.BitPeriods.{BitPeriods}
use Rattle.pnet_path.specs.Path.{Path, gateways, sheet_at, bound_at, sender_at, forwarding_at, crossed}
use Rattle.report_path_lines.specs.Lines.{sheet_refusal, path_refusal}
use Rattle.report_path.specs.Told.{path_text}
use Rattle.std.specs.declared.result.Result.TheVariants.{Ok, Err}
use Rattle.std.specs.declared.result.Result.{Result}
use Rattle.common.specs.declared.Refusal.{Refusal}

-- ---- The text

-- a path that is accepted: each segment with its sender and its bound, each gateway with its forwarding time, and the total
unfoldable pub path_lines : Path → BitPeriods → List ℕ
path_lines P total = path_text (sender_at P) (λ i. bp (bound_at P i)) (λ i. bp (forwarding_at P i)) (gateways P) total (bp P.deadline)

-- what a path is answered whose sheets are all accepted: what it costs, which is the total, or its own refusal
abbrev pub answer_text : Path → Result BitPeriods Refusal → List ℕ
answer_text P (Ok cost) = path_lines P cost
answer_text P (Err r) = path_refusal r.no r.place

-- the sheet of segment i is refused for itself, or what follows is told
abbrev pub sheet_or : ℕ → Outcome → List ℕ → List ℕ
sheet_or i (Read H) text = text
sheet_or i (Not n p) text = sheet_refusal i n p

-- 'each sheet's own in path order', of n segments from segment i on, and then what the path is answered
unfoldable pub report_from : Path → ℕ → ℕ → List ℕ
unfolding sheet_at crossed path_lines
report_from P zero i = answer_text P (crossed P)
report_from P (suc n) i = sheet_or i (sheet_at P i) (report_from P n (suc i))

unfoldable pub path_report : Path → List ℕ
unfolding report_from
path_report P = report_from P P.segments 1

-- ---- The verdict

abbrev pub is_within : Result BitPeriods Refusal → Bool
is_within (Ok cost) = true
is_within (Err r) = false

-- no sheet is refused, nor the path for itself
unfoldable pub path_accepts : Path → Bool
unfolding crossed
path_accepts P = is_within (crossed P)
