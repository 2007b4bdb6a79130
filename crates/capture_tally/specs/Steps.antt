-- What the parts of the reader of a capture answer at one record, and what they keep of it. Words of inner contracts alone.
-- Assumes nothing.
use Rattle.std.specs.Prelude.{◌≡◌, ℕ, ◌+◌, ◌-◌, ◌%◌, ◌^◌, max, cond, not, ◌&&◌, List, length, ◌==◌, nat_lt, slice_index, slice_set}
use Rattle.common.specs.Checks.{Verdict}
use Rattle.common.specs.Checks.Verdict.{Passed, Refused}
use Rattle.common.specs.Sums.{when}
use Rattle.capture_log.specs.declared.Event.{Event}
use Rattle.capture_log.specs.Log.{around}
use Rattle.capture_tally.specs.Pieces.{most}

-- the runs have 800 places
pub record Long (bound left since answers largest above : List ℕ) : Type 0 where
  pub bound_long : length bound ≡ most
  pub left_long : length left ≡ most
  pub since_long : length since ≡ most
  pub answers_long : length answers ≡ most
  pub largest_long : length largest ≡ most
  pub above_long : length above ≡ most

-- a refusal's number, 0 for none
abbrev pub no_of : Verdict → ℕ
no_of Passed = 0
no_of (Refused n p) = n

-- by what is open: 15 for an answer, 16 for a request
unfoldable pub open_no : ℕ → ℕ → ℕ
open_no kind waiting = cond (kind == 17 && waiting == 0) 15 (cond (kind == 16 && not (waiting == 0)) 16 0)

-- the place of a record's stream
abbrev pub spot : Event → ℕ
spot e = e.stream - 1

-- what is kept of a request, kind 16, else of an answer
unfoldable pub left_with : List ℕ → Event → List ℕ
left_with left e = slice_set left (spot e) (when (e.kind == 16) 1)

unfoldable pub since_with : List ℕ → Event → List ℕ
since_with since e = cond (e.kind == 16) (slice_set since (spot e) e.stamp) since

unfoldable pub answers_with : List ℕ → Event → List ℕ
answers_with answers e = cond (e.kind == 16) answers (slice_set answers (spot e) ((slice_index answers (spot e) + 1) % 2 ^ 64))

-- the response that it shows
unfoldable pub shown_by : List ℕ → Event → ℕ
unfolding around
shown_by since e = around e.stamp (slice_index since (spot e))

unfoldable pub largest_with : List ℕ → List ℕ → Event → List ℕ
unfolding shown_by
largest_with since largest e = cond (e.kind == 16) largest (slice_set largest (spot e) (max (slice_index largest (spot e)) (shown_by since e)))

unfoldable pub above_with : List ℕ → List ℕ → List ℕ → Event → List ℕ
unfolding shown_by
above_with bound since above e =
    cond (e.kind == 16) above
    (slice_set above (spot e) ((slice_index above (spot e) + when (nat_lt (slice_index bound (spot e)) (shown_by since e)) 1) % 2 ^ 64))
