-- Page 02, 'Ask 11', from the bytes of a sheet: where the planner that sends urgent requests first accepts a sheet, the number that stands in the lent run for x at
-- stream i's place is kept to by every run in which stream i and the streams ahead of it keep their spacing. Assumes nothing.
use Prim.Native.Nat.{ℕ, ◌≤◌}
use mathlib.Core.Path.{◌≡◌}
use mathlib.Core.List.{List}
use lib.ListN.{length}
use Rattle.sheet_rules.specs.Sheets.{Sheet}
use Rattle.sheet_rules.specs.Whole.Outcome.{Read}
use Rattle.pnet_rules.specs.Segment.{segment_of}
use Rattle.pnet_bounds.specs.Bounded.{stream_run}
use Rattle.pnet_urgent_rules.specs.Urgent.{figure}
use Rattle.pnet_urgent_rules.specs.Planned.{urgently}
use Rattle.pnet_urgent_rules.specs.Refusals.{Accepted}
use Rattle.pnet_urgent_rules.proofs.Refusals.{accepted_exactly}
use Rattle.pnet_urgent_run.proofs.Figures.{each_request_is_answered_within_its_figure}
use Rattle.demands_urgent.specs.Written.{written_at, room_in}
use Rattle.demands_urgent.specs.Kept.{Promised}
use Rattle.demands_urgent.proofs.Written.{stands_for, in_range_law, all_met}

-- the bytes s, and the three lent runs before the call; the planner accepts the sheet H that the bytes say
module _ (s lent-places lent-x lent-rounds : List ℕ) (H : Sheet) (accepts : urgently s (room_in lent-places lent-x lent-rounds) ≡ Read H) where
  pub as_accepted : Accepted s (room_in lent-places lent-x lent-rounds) H
  as_accepted = (accepted_exactly s (room_in lent-places lent-x lent-rounds) H).0 accepts

  -- i is one of its streams
  module _ (i : ℕ) (from : 1 ≤ i) (to : i ≤ length H.streams) where
    -- what the run for x holds at its place after the call
    abbrev pub written_x : ℕ
    written_x = written_at (stream_run (urgently s (room_in lent-places lent-x lent-rounds)) figure lent-x) i

    pub written_x_is_the_figure : written_x ≡ figure (segment_of H) i
    written_x_is_the_figure = rw accepts (stands_for (figure (segment_of H)) (length H.streams) i lent-x from to)

    pub each_request_is_answered_within_the_written_x : Promised (segment_of H) i written_x
    unfolding segment_of
    each_request_is_answered_within_the_written_x =
        let safe = each_request_is_answered_within_its_figure H (in_range_law s _ H as_accepted) i from to (all_met s _ H as_accepted i from to) in
        record { ever = λ urgent run spaced. rw written_x_is_the_figure (safe.ever urgent run spaced) }
