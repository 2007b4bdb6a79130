-- Whole reports from the bytes of a sheet and of a capture. The sheet: one master with one stream, C 203 bp, T and D 1,000 bp. Assumes nothing.
use Prim.Native.Nat.{ℕ, ◌^◌, ◌<◌}
use mathlib.Core.Path.{◌≡◌, refl, ◌∙◌}
use mathlib.Core.List.{List, [], ◌∷◌, ◌++◌}
use mathlib.Core.Bool.{true, false}
use native.Mathlib.Omega.{arith}
use Rattle.common.specs.Sums.{sum, first_of, up}
use Rattle.units.specs.Units.{nanos_up}
use Rattle.text.specs.Text.{word, ◌·◌, places, holds, width_of, decimal, texts}
use Rattle.pnet_bounds.specs.Bounded.{bounded, bound_of}
use Rattle.pnet_urgent_rules.specs.Urgent.{figure}
use Rattle.pnet_urgent_rules.specs.Planned.{urgently}
use Rattle.capture_log.specs.Log as Log
use Rattle.capture_log.specs.Records as log
use Rattle.capture_log.specs.Records.{events}
use Rattle.capture_ages.specs.Ages.{clock, broken, soon, whose, beyond}
use Rattle.report_phrases.specs.Phrases.{in_bp, in_ns, in_both, two_counts, name_of, whose_text, place_text, refused_text, refusal_text}
use Rattle.report_faults.specs.Faults as faults
use Rattle.report_capture.specs.Shown as shown
use Rattle.report_beside.specs.Whole.{beside_report}
use Rattle.report_beside.specs.Recorded.{above_at, late_at, recorded_text, recorded_report}
use Rattle.report_beside.proofs.Recorded.{report_as_recorded}

abbrev sheet : List ℕ
sheet = 1 ∷ 1 ∷ 2 ∷ 1 ∷ 0 ∷ 203 ∷ 0 ∷ 0 ∷ 3 ∷ 232 ∷ 0 ∷ 0 ∷ 3 ∷ 232 ∷ []

-- a request 100 bp before the counter runs over, answered 110 bp behind it
abbrev capture : List ℕ
capture = 16 ∷ 0 ∷ 1 ∷ 255 ∷ 255 ∷ 255 ∷ 156 ∷ 17 ∷ 0 ∷ 1 ∷ 0 ∷ 0 ∷ 0 ∷ 110 ∷ []

short : clock (events capture) < 2 ^ 64
unfolding events clock
short = omega arith

pub one_answer : beside_report false sheet capture
    ≡ word "P-NET capture\n"
    · word "stream 1 M01 bound 250 bp 3255209 ns largest 210 bp 2734375 ns 1 answers 0 above 0 open\n"
    · word "every answer within its bound\n"
unfolding recorded_report recorded_text above_at late_at bounded bound_of events log.heard Log.answered Log.largest Log.above Log.left beyond soon whose broken shown.capture_text shown.heading faults.last_lines faults.clean faults.exceeding faults.exceeds shown.stream_at shown.stream_line whose_text shown.counts_text name_of two_counts in_both in_bp in_ns nanos_up up sum texts decimal places width_of holds first_of
one_answer = report_as_recorded false sheet capture (omega arith) short ∙ refl

-- one master with three streams, C 203 bp: the first has T 600 and D 500 bp, the others T and D 100,000 bp. First-come queues refuse it, for R is 750 bp
abbrev urgent_sheet : List ℕ
urgent_sheet =
    1 ∷ 1 ∷ 2 ∷ 1 ∷ 0 ∷ 203 ∷ 0 ∷ 0 ∷ 2 ∷ 88 ∷ 0 ∷ 0 ∷ 1 ∷ 244
    ∷ 2 ∷ 1 ∷ 0 ∷ 203 ∷ 0 ∷ 1 ∷ 134 ∷ 160 ∷ 0 ∷ 1 ∷ 134 ∷ 160
    ∷ 2 ∷ 1 ∷ 0 ∷ 203 ∷ 0 ∷ 1 ∷ 134 ∷ 160 ∷ 0 ∷ 1 ∷ 134 ∷ 160 ∷ []

pub urgent_answer : beside_report true urgent_sheet capture
    ≡ word "P-NET capture urgent first\n"
    · word "stream 1 M01 bound 500 bp 6510417 ns largest 210 bp 2734375 ns 1 answers 0 above 0 open\n"
    · word "stream 2 M01 bound 1000 bp 13020834 ns largest 0 bp 0 ns 0 answers 0 above 0 open\n"
    · word "stream 3 M01 bound 1000 bp 13020834 ns largest 0 bp 0 ns 0 answers 0 above 0 open\n"
    · word "every answer within its bound\n"
unfolding recorded_report recorded_text above_at late_at urgently figure events log.heard Log.answered Log.largest Log.above Log.left beyond soon whose broken shown.capture_text shown.heading faults.last_lines faults.clean faults.exceeding faults.exceeds shown.stream_at shown.stream_line whose_text shown.counts_text name_of two_counts in_both in_bp in_ns nanos_up up sum texts decimal places width_of holds first_of
urgent_answer = report_as_recorded true urgent_sheet capture (omega arith) short ∙ refl

pub first_come_refused : (c : List ℕ) → beside_report false urgent_sheet c ≡ word "refused 8 at stream 1\n"
unfolding beside_report bounded refusal_text refused_text place_text decimal places width_of holds first_of
first_come_refused c = refl

-- the answer comes a second time
pub answered_twice : beside_report false sheet (capture ++ (17 ∷ 0 ∷ 1 ∷ 0 ∷ 0 ∷ 0 ∷ 120 ∷ [])) ≡ word "refused 15 at capture byte 14\n"
unfolding beside_report bounded log.heard shown.capture_refusal decimal places width_of holds first_of
answered_twice = refl

-- a sheet that is cut behind its first byte, whatever the capture is
pub cut_sheet : (c : List ℕ) → beside_report false (1 ∷ []) c ≡ word "refused 1 at byte 0\n"
unfolding beside_report bounded refusal_text refused_text place_text decimal places width_of holds first_of
cut_sheet c = refl
