-- Page 01, 'Sheet records': what reading answers, and what it hands over of each master. Assumes nothing.
use Rattle.std.specs.Prelude.{ℕ, List, cond, length, eqb}
use Rattle.common.specs.Runs.{tab}
use Rattle.sheet_record.specs.Kinds.{worldfip}
use Rattle.sheet_rules.specs.Sheets.{Sheet, bus_in, message_of, count_of, longest_of}
use Rattle.sheet_rules.specs.Whole.{Outcome, place_of, first_stream}
use Rattle.sheet_rules.specs.Whole.Outcome.{Read, Not}
use Rattle.std.specs.declared.result.Result.TheVariants.{Ok, Err}
use Rattle.common.specs.Checks.{refusal}
use Rattle.std.specs.declared.result.Result.{Result}
use Rattle.common.specs.declared.Refusal.{Refusal}
use Rattle.sheet_record.specs.declared.Record.{Record}
use Rattle.sheet_read.specs.declared.Accepted.{Accepted}

-- a sheet by its first record, how many streams it has, and the place of the first of them
abbrev pub accepted : Record → ℕ → ℕ → Accepted
accepted head n first = record { head = head; streams = n; first = first }

-- what reading answers: the sheet, or the refusal's number and place
abbrev pub told : List ℕ → Outcome → Result Accepted Refusal
told s (Read S) = Ok (accepted S.head (length S.streams) (place_of s (first_stream S)))
told s (Not n p) = Err (refusal n p)

-- how many streams master k has, and the longest C of them
unfoldable pub streams_of_master : Sheet → ℕ → ℕ
unfolding count_of
streams_of_master S k = count_of k S.streams

unfoldable pub longest_of_master : Sheet → ℕ → ℕ
unfolding longest_of
longest_of_master S k = longest_of k S.streams

-- lent memory of 33 places: place k has a figure of master k. It keeps what it had on a refusal, and for WorldFIP, whose variables have no
-- master
abbrev pub by_master : (Sheet → ℕ → ℕ) → Outcome → List ℕ → List ℕ
by_master figure (Read S) old = cond (eqb (bus_in S) worldfip) old (tab (figure S) 33)
by_master figure (Not n p) old = old

unfoldable pub counts_told : Outcome → List ℕ → List ℕ
unfolding streams_of_master tab
counts_told o old = by_master streams_of_master o old

unfoldable pub longests_told : Outcome → List ℕ → List ℕ
unfolding longest_of_master tab
longests_told o old = by_master longest_of_master o old

-- and its longest message, which on P-NET is 0
unfoldable pub messages_told : Outcome → List ℕ → List ℕ
unfolding message_of tab
messages_told o old = by_master message_of o old
