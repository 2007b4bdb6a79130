-- What the runs hold between two pieces, and what each step makes of it: the report is that of sheet and capture as a whole. urgent is the
-- rule, s the sheet, c the capture so far, p the next piece. Assumes nothing.
use Rattle.std.specs.Prelude.{ℕ, ◌*◌, ◌≤◌, ◌<◌, ◌≡◌, List, [], ◌++◌, Bool, false, length, take}
use Rattle.common.specs.Checks.Verdict.{Passed}
use Rattle.sheet_rules.specs.Sheets.{Sheet}
use Rattle.sheet_rules.specs.Whole.Outcome.{Read}
use Rattle.pnet_bounds.specs.Bounded.{master_of, spacing_of, jitter_of}
use Rattle.capture_log.specs.Log.{fresh}
use Rattle.capture_log.specs.Records.{size, heard}
use Rattle.report_beside.specs.declared.Hearing.{Hearing}
use Rattle.report_beside.specs.declared.Begun.{Begun}
use Rattle.report_beside.specs.declared.Begun.TheVariants as begun
use Rattle.report_beside.specs.declared.Heard.{Heard}
use Rattle.report_beside.specs.declared.Heard.TheVariants as told
use Rattle.report_beside.specs.declared.Reported.{Reported}
use Rattle.report_beside.specs.Whole.{Tally, tally, laid, limit_of, figures, tally_of, watch_of, beside_report, beside_clean}
use Rattle.text.specs.Text.{over}
use Rattle.report_beside.specs.Steps.{last, reported_as}

-- neither sheet nor capture is refused so far, and the runs hold what they leave
pub record Kept (urgent : Bool) (s c : List ℕ) (h : Hearing) (masters R T J : List ℕ) (k : Tally) : Type 0 where
  pub sheet : Sheet
  pub is_laid : laid urgent s ≡ Read sheet
  pub passes : heard c (length sheet.streams) fresh ≡ Passed
  pub rule_is : h.urgent ≡ urgent
  pub streams_are : h.streams ≡ length sheet.streams
  pub bytes_are : h.bytes ≡ length c
  pub watch_is : h.watch ≡ watch_of sheet c
  pub masters_are : masters ≡ figures sheet master_of
  pub bounds_are : R ≡ figures sheet (limit_of urgent)
  pub spacings_are : T ≡ figures sheet spacing_of
  pub jitters_are : J ≡ figures sheet jitter_of
  pub tally_is : k ≡ tally_of urgent sheet c

-- the run `new`, that was `old`, begins with the report of sheet and capture, which are refused; n is its length
pub record Refuses (urgent : Bool) (s c old new : List ℕ) (n : ℕ) : Type 0 where
  pub is_refused : beside_clean urgent s c ≡ false
  pub length_is : n ≡ length (beside_report urgent s c)
  pub text_is : new ≡ over (beside_report urgent s c) old

-- a piece ends with a record, or nothing comes behind it
pub data Ends (p : List ℕ) : List ℕ → Type 0 where
  whole : {rest : List ℕ} (m : ℕ) → length p ≡ size * m → Ends p rest
  at_last : Ends p []

-- ---- The steps, by their answers

-- beginning: nothing is heard yet; or the sheet is refused, whatever the capture is
abbrev pub Begins : Bool → List ℕ → Begun → List ℕ → List ℕ → List ℕ → List ℕ → List ℕ → List ℕ → Tally → Type 0
Begins urgent s (begun.On h) old new masters R T J k = Kept urgent s [] h masters R T J k
Begins urgent s (begun.Refused n) old new masters R T J k = (c : List ℕ) → Refuses urgent s c old new n

-- hearing: the piece is heard; or the capture is refused, whatever comes behind it; or it is too long to be counted
abbrev pub Hears : Bool → List ℕ → List ℕ → List ℕ → Heard → List ℕ → List ℕ → List ℕ → List ℕ → List ℕ → List ℕ → Tally → Type 0
Hears urgent s c p (told.On h) old new masters R T J k = (length c < last) × Kept urgent s (c ++ p) h masters R T J k
Hears urgent s c p (told.Refused n) old new masters R T J k = (rest : List ℕ) → Ends p rest → Refuses urgent s ((c ++ p) ++ rest) old new n
Hears urgent s c p told.TooLong old new masters R T J k = last ≤ length c

-- reporting: the run `new`, that was `old`, begins with the whole report, and the answer says how long it is and whether anything is wrong
pub record Reports (urgent : Bool) (s c : List ℕ) (r : Reported) (old new : List ℕ) : Type 0 where
  pub says : r ≡ reported_as (beside_clean urgent s c) (length (beside_report urgent s c))
  pub text_is : new ≡ over (beside_report urgent s c) old

-- ---- What a program holds and writes, of which nobody knows what it read

-- what a sheet and the pieces of some capture leave
pub record Holds (urgent : Bool) (s : List ℕ) (h : Hearing) (masters R T J : List ℕ) (k : Tally) : Type 0 where
  pub capture : List ℕ
  pub kept : Kept urgent s capture h masters R T J k

-- the same of what is shown alone
pub record Shows (urgent : Bool) (s : List ℕ) (h : Hearing) (masters R left answers largest above asked : List ℕ) : Type 0 where
  pub spacing : List ℕ
  pub jitter : List ℕ
  pub since : List ℕ
  pub lead : List ℕ
  pub held : Holds urgent s h masters R spacing jitter (tally left since answers largest above asked lead)

-- the first n bytes of a text are the whole report of the sheet s beside a capture, and `accepted` is what it says
pub record Tells (urgent : Bool) (s text : List ℕ) (n : ℕ) (accepted : Bool) : Type 0 where
  pub capture : List ℕ
  pub text_is : take n text ≡ beside_report urgent s capture
  pub says : accepted ≡ beside_clean urgent s capture
