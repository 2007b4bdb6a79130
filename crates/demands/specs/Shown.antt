-- Page 01, 'Sheets worked by hand', and page 02, Ask 5: what a P-NET report shows of a master, and what that promises of every run of the bus, in ns.
-- Assumes nothing.
use Rattle.std.specs.Prelude.{ℕ, ◌+◌, ◌*◌, ◌≤◌, ◌≡◌}
use mathlib.Core.List.{List, Memᴰ}
use Rattle.units.specs.Units.{bp, WithinNanos, nanos_up}
use Rattle.units.specs.declared.BitPeriods.{BitPeriods}
use Rattle.units.specs.declared.Nanos.{Nanos}
use Rattle.pnet_rules.specs.Segment.{Segment}
use Rattle.pnet_run.specs.Run.{Belongs, Request, Answer, answer, Queues, Token, Run}
use Rattle.pnet_run.specs.Promise.{Spaced, Lasts, Answered}
use Rattle.text.specs.Text.{word, decimal, ◌·◌}
use Rattle.report_phrases.specs.Phrases.{name_of}

-- ---- A line

-- 'M01 bound 1000 bp 13020834 ns refined 760 bp 9895834 ns 1 rounds'
abbrev pub line_of : ℕ → BitPeriods → Nanos → BitPeriods → Nanos → ℕ → List ℕ
line_of k R R_ns W W_ns rounds =
    name_of k · word " bound " · decimal R.0 · word " bp " · decimal R_ns.0 · word " ns refined " · decimal W.0 · word " bp " · decimal W_ns.0
    · word " ns " · decimal rounds · word " rounds"

-- the line stands in the text, behind another line: 'each line ended by one newline'
pub record Stands (line text : List ℕ) : Type 0 where
  pub before : List ℕ
  pub after : List ℕ
  pub is : text ≡ before · word "\n" · line · word "\n" · after

-- ---- A promise in ns

-- every request of master k is answered within n: 'Response is completion minus arrival', and 6 bp last 78,125 ns
pub record AnsweredWithin (n : Nanos) (S : Segment) (k t : ℕ) (y : Token) (came : List Request) (went : List Answer) : Type 0 where
  pub in_time : (a : Answer) → Memᴰ a went → Belongs S k a.to.of → (response : ℕ) → a.at ≡ a.to.since + response → WithinNanos (bp response) n
  -- 'if the run lasts that long': for a span of n or more from the arrival on
  pub none_left : (r : Request) → Memᴰ r came → Belongs S k r.of → (span : ℕ) → 6 * n.0 ≤ 78125 * span → Lasts t y (r.since + span)
      → (u : ℕ) × Memᴰ (answer r u) went

-- a report shows the bound R, the refined figure W and its rounds for master k, and every run keeps to them
pub record Shows (report : List ℕ) (S : Segment) (k : ℕ) (R W : BitPeriods) (rounds : ℕ) : Type 0 where
  -- 'Convert bounds to ns, rounded up'
  pub line : Stands (line_of k R (nanos_up R) W (nanos_up W) rounds) report
  -- no other line of the report begins with master k's name; 10 is the newline
  pub only : (rest : List ℕ) → (Memᴰ 10 rest → ⊥) → Stands (name_of k · rest) report → name_of k · rest ≡ line_of k R (nanos_up R) W (nanos_up W) rounds
  -- each request is answered within the bound in bp and in ns, where master k keeps its spacing, however often the other masters ask
  pub bound_kept : {t : ℕ} {y : Token} {q : Queues} {came : List Request} {went : List Answer}
      → Run S t y q came went → Spaced S k came → Answered R S k t y came went × AnsweredWithin (nanos_up R) S k t y came went
  -- and within the refined figure, where all masters keep their spacing
  pub refined_kept : {t : ℕ} {y : Token} {q : Queues} {came : List Request} {went : List Answer}
      → Run S t y q came went → ((m : ℕ) → Spaced S m came) → Answered W S k t y came went × AnsweredWithin (nanos_up W) S k t y came went
