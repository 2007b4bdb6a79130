-- Page 02, 'Ask 4': the report of a path by what is kept of it (`Way`), the answer for it, and what the lent run then holds. Assumes nothing.
use Rattle.std.specs.Prelude.{ℕ, ◌-◌, List, ◌++◌, Bool, cond, ltb, length, drop, get_or}
use Rattle.units.specs.Units.{bp}
use Rattle.units.specs.declared.BitPeriods.{BitPeriods}
use Rattle.pnet_path.specs.Ways.{answer_of}
use Rattle.pnet_path.specs.declared.Way.{Way}
use Rattle.text.specs.Text.{item}
use Rattle.report_path_lines.specs.Lines.{sheet_refusal, path_refusal}
use Rattle.report_phrases.specs.declared.Reported.{Reported}
use Rattle.report_phrases.specs.Reports.{told}
use Rattle.report_path.specs.Told.{most_path, path_text}
use Rattle.report_path.specs.Report.{is_within}
use Rattle.std.specs.declared.result.Result.TheVariants.{Ok, Err}
use Rattle.std.specs.declared.result.Result.{Result}
use Rattle.common.specs.declared.Refusal.{Refusal}
use Rattle.sheet_read.specs.Told.{accepted}
use Rattle.std.specs.declared.option.Option.{Option}
use Rattle.std.specs.declared.option.Option.TheVariants.{Some, None}

-- ---- The report

-- what stands at place i of a run of counts
abbrev pub count_at : List BitPeriods → ℕ → BitPeriods
count_at l i = get_or l i (bp 0)

-- the lines of the segments that are kept
unfoldable pub lines_of : Way → BitPeriods → BitPeriods → List ℕ
lines_of w total deadline = path_text (item w.masters) (count_at w.bounds) (count_at w.times) (w.segments - 1) total deadline

abbrev pub answer_text_of : Way → BitPeriods → Result BitPeriods Refusal → List ℕ
answer_text_of w deadline (Ok total) = lines_of w total deadline
answer_text_of w deadline (Err r) = path_refusal r.no r.place

abbrev pub refused_text_or : ℕ → Option Refusal → List ℕ → List ℕ
refused_text_or segment (Some r) text = sheet_refusal segment r.no r.place
refused_text_or segment None text = text

-- a sheet is refused, that of the last segment; or what the path is answered
unfoldable pub report_of : Way → BitPeriods → List ℕ
unfolding answer_of lines_of
report_of w deadline = refused_text_or w.segments w.refused (answer_text_of w deadline (answer_of w deadline.0))

unfoldable pub accepts_of : Way → BitPeriods → Bool
unfolding answer_of
accepts_of w deadline = is_within (answer_of w deadline.0)

-- ---- The lent run

-- the answer for a lent run of so many bytes: whether the path is accepted, and how many the report takes; or none, without room for every report
unfoldable pub told_in : ℕ → Bool → List ℕ → Option Reported
told_in room accepted text = cond (ltb room most_path) None (Some (told accepted (length text)))

-- the lent run then: the report, and behind it what stood there
unfoldable pub run_with : List ℕ → List ℕ → List ℕ
run_with old text = cond (ltb (length old) most_path) old (text ++ drop (length text) old)
