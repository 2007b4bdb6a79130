-- Page 02, Asks 2, 5 and 7, on a sheet with release jitter, from its bytes: the planner accepts it, writes W = 596 bp for master 1 and reports that with
-- its ns; where all masters keep their spacing, each request of master 1 is answered within that, and some request takes exactly that. So nothing that
-- Corrected and Shown suppose is empty, and the figure is no higher than it must be. Without J in the count it would be 356 (crates/pnet_run: Jitter).
-- The sheet names no edition, so edition 1 holds. Assumes nothing.
use Prim.Native.Nat.{ℕ, ◌≤◌}
use mathlib.Core.Path.{◌≡◌, refl, ◌∙◌}
use mathlib.Core.List.{List, [], ◌∷◌, ◌++◌}
use native.Mathlib.Omega.{arith}
use lib.ListN.{length}
use Rattle.common.specs.Sums.{up}
use Rattle.sheet_record.specs.declared.Record.{Record}
use Rattle.sheet_rules.specs.Sheets.{Sheet}
use Rattle.sheet_rules.specs.Whole.Outcome.{Read}
use Rattle.units.specs.Units.{bp, ns, nanos_up}
use Rattle.units.specs.declared.BitPeriods.{BitPeriods}
use Rattle.pnet_rules.specs.Segment.{Segment, segment_of, count, bound}
use Rattle.pnet_rules.specs.Refined.{rounds, refined}
use Rattle.pnet_plan.specs.Planned.{planned}
use Rattle.pnet_run.specs.Run.{Request, Answer, answer, Queues, Token, Run}
use Rattle.pnet_run.specs.Promise.{Spaced, Answered, Reached}
use Rattle.pnet_run.proofs.Jitter.{with_J_it_is_596, some_run_takes_W}
use Rattle.text.specs.Text.{word, ◌·◌, places, holds, width_of, decimal, texts}
use Rattle.report_phrases.specs.Phrases.{in_bp, in_ns, in_both, two_counts, name_of}
use Rattle.report_lines.specs.Lines.{master_line}
use Rattle.report_sheet.specs.Whole.{master_of, masters_of, segment_report, first_bus, report_of}
use Rattle.demands.specs.Shown.{AnsweredWithin}
use Rattle.demands.proofs.Corrected.{written_refined, written_refined_is_W, each_request_is_answered_within_the_written_refined_figure}
use Rattle.demands.proofs.Shown.{what_the_report_shows_is_kept}

-- ---- The sheet, byte by byte

-- kind 1: N = 2
abbrev segment_bytes : List ℕ
segment_bytes = 1 ∷ 2 ∷ []

-- kind 2: master 1, C = 1, T = 596, D = 596
abbrev short_bytes : List ℕ
short_bytes = 2 ∷ 1 ∷ 0 ∷ 1 ∷ 0 ∷ 0 ∷ 2 ∷ 84 ∷ 0 ∷ 0 ∷ 2 ∷ 84 ∷ []

-- kind 7: master 2, C = 203, T = 654, D = 298, J = 356
abbrev late_bytes : List ℕ
late_bytes = 7 ∷ 2 ∷ 0 ∷ 203 ∷ 0 ∷ 0 ∷ 2 ∷ 142 ∷ 0 ∷ 0 ∷ 1 ∷ 42 ∷ 0 ∷ 0 ∷ 1 ∷ 100 ∷ []

abbrev pub bytes : List ℕ
bytes = segment_bytes ++ (short_bytes ++ (short_bytes ++ late_bytes))

-- what they say
abbrev short : Record
short = record { kind = 2; a = 1; b = 1; c = 596; d = 596; e = 0 }

abbrev pub sheet : Sheet
sheet = record {
  head = record { kind = 1; a = 2; b = 0; c = 0; d = 0; e = 0 };
  settings = [];
  streams = short ∷ short ∷ record { kind = 7; a = 2; b = 203; c = 654; d = 298; e = 356 } ∷ [];
}

abbrev pub jittery : Segment
jittery = segment_of sheet

-- ---- What the planner makes of it

-- a lent run with a place for each master
abbrev pub lent : List ℕ
lent = 0 ∷ 0 ∷ []

pub accepts : planned bytes (length lent) (length lent) (length lent) ≡ Read sheet
unfolding planned
accepts = refl

-- the same with the 32 places that the program lends
accepts_32 : planned bytes 32 32 32 ≡ Read sheet
unfolding planned
accepts_32 = refl

-- what it writes for master 1 in the run for W
abbrev written_W : ℕ
written_W = written_refined bytes lent lent lent sheet accepts 1 (omega arith) (omega arith)

pub written_is_596 : written_W ≡ 596
written_is_596 = written_refined_is_W bytes lent lent lent sheet accepts 1 (omega arith) (omega arith) ∙ with_J_it_is_596

-- ---- What is promised of it

-- 'every response is within the corrected figure', where all masters keep their spacing: 'each arrival is 0 to J after a nominal time of its own,
-- and a stream's nominal times are at least T apart'
pub each_request_is_answered_within_596 : {now : ℕ} {token : Token} {queues : Queues} {came : List Request} {went : List Answer}
    → Run jittery now token queues came went → ((y : ℕ) → Spaced jittery y came) → Answered (bp 596) jittery 1 now token came went
each_request_is_answered_within_596 run spaced =
    rw written_is_596 at (each_request_is_answered_within_the_written_refined_figure bytes lent lent lent sheet accepts 1 (omega arith) (omega arith) run spaced)

-- some such run takes exactly that
pub some_run_takes_596 : Reached (bp 596) jittery 1
some_run_takes_596 = rw with_J_it_is_596 at some_run_takes_W

-- so no lower figure is true of all such runs
pub no_lower_refined_figure_is_true : (figure : BitPeriods)
    → ((now : ℕ) (token : Token) (queues : Queues) (came : List Request) (went : List Answer) → Run jittery now token queues came went
    → ((y : ℕ) → Spaced jittery y came) → Answered figure jittery 1 now token came went)
    → 596 ≤ figure.0
no_lower_refined_figure_is_true figure safe =
    let x = some_run_takes_596 in
    omega (arith, (safe _ _ _ _ _ x.run x.spaced).in_time (answer x.slow _) x.exact x.own)

-- ---- What the report shows of it

-- 'Convert bounds to ns, rounded up: one bp is 78,125/6 ns.'
pub its_report : report_of bytes
    ≡ word "P-NET segment\n"
    · word "M01 bound 596 bp 7760417 ns refined 596 bp 7760417 ns 2 rounds\n"
    · word "M02 bound 298 bp 3880209 ns refined 298 bp 3880209 ns 1 rounds\n"
unfolding report_of first_bus segment_report masters_of master_of planned refined texts master_line name_of two_counts in_both in_bp in_ns nanos_up decimal places width_of holds
its_report = refl

shown_in_ns : nanos_up (bp (refined jittery 1)) ≡ ns 7760417
unfolding nanos_up up
shown_in_ns = rw with_J_it_is_596

some : 1 ≤ count jittery 1
unfolding segment_of count
some = omega arith

-- each response of master 1 is over within the ns shown, where all masters keep their spacing
pub each_response_is_within_7760417_ns : {now : ℕ} {token : Token} {queues : Queues} {came : List Request} {went : List Answer}
    → Run jittery now token queues came went → ((y : ℕ) → Spaced jittery y came) → AnsweredWithin (ns 7760417) jittery 1 now token came went
each_response_is_within_7760417_ns run spaced =
    let shows = what_the_report_shows_is_kept bytes sheet accepts_32 1 (omega arith) (omega arith) some in
    rw shown_in_ns at (shows.refined_kept run spaced).1
