-- Page 02, 'Ask 11', beside page 01, 'P-NET bounds', from the bytes of a sheet: what the planner for first-come queues accepts, the one that sends urgent requests first accepts too,
-- where a place for each stream is lent, and the x that it writes for a stream is at most its master's R. Assumes nothing.
use Prim.Native.Nat.{ℕ, ◌≤◌}
use mathlib.Core.Path.{◌≡◌}
use mathlib.Core.Bool.{false}
use mathlib.Core.List.{List}
use native.Mathlib.Omega.{arith}
use borrow.Author.Tests.{le-ltb}
use lib.ListN.{length}
use Rattle.sheet_rules.specs.Sheets.{Sheet}
use Rattle.sheet_rules.specs.Whole.Outcome.{Read}
use Rattle.pnet_rules.specs.Segment.{Segment, segment_of, bound, late}
use Rattle.pnet_plan.specs.Planned.{planned}
use Rattle.pnet_plan.specs.Refusals as first-come
use Rattle.pnet_plan.proofs.Refusals as first-come-planner
use Rattle.pnet_urgent_rules.specs.Planned.{urgently}
use Rattle.pnet_urgent_rules.proofs.Right.{turn_some}
use Rattle.pnet_urgent_rules.proofs.Figures.{met_then}
use Rattle.pnet_urgent_rules.proofs.Refusals.{accepted_exactly}
use Rattle.pnet_urgent_rules.proofs.FirstCome.{figure_within_the_bound, met_where_first_come_is}
use Rattle.demands.proofs.Demand3.{accepted_as_demanded}
use Rattle.demands_urgent.specs.Written.{room_in}
use Rattle.demands_urgent.proofs.Kept.{written_x, written_x_is_the_figure}

-- the bytes s, and the three runs that are lent to the planner for first-come queues; it accepts the sheet H that the bytes say
module _ (s bounds refined rounds : List ℕ) (H : Sheet) (accepts : planned s (length bounds) (length refined) (length rounds) ≡ Read H)
    -- the three runs that are lent to the other planner have a place for each stream
    (lent-places lent-x lent-rounds : List ℕ) (enough : length H.streams ≤ room_in lent-places lent-x lent-rounds) where
  abbrev S : Segment
  S = segment_of H

  passed : first-come.Accepted s (length bounds) (length refined) (length rounds) H
  passed = (first-come-planner.accepted_exactly s (length bounds) (length refined) (length rounds) H).0 accepts

  none_late : (i : ℕ) → 1 ≤ i → i ≤ S.number → late S i ≡ false
  unfolding late
  none_late i from to = le-ltb (S.stream i).deadline (bound S (S.stream i).master) (passed.passes i from to).in_time

  -- a sheet that first come accepts is not refused
  pub urgent_first_accepts_it_too : urgently s (room_in lent-places lent-x lent-rounds) ≡ Read H
  urgent_first_accepts_it_too =
      let declared = (accepted_as_demanded s bounds refined rounds H accepts).declared in
      (accepted_exactly s (room_in lent-places lent-x lent-rounds) H).1
      (record {
        on_bus = record { reads = passed.on_bus.reads; pnet = passed.on_bus.pnet };
        enough = enough;
        met = λ i from to. met_then S i (turn_some S declared) (met_where_first_come_is S declared i from to (λ j lo hi same. none_late j lo hi));
      })

  -- and no x is above R
  pub the_written_x_is_at_most_R : (i : ℕ) (from : 1 ≤ i) (to : i ≤ length H.streams)
      → written_x s lent-places lent-x lent-rounds H urgent_first_accepts_it_too i from to ≤ bound S (S.stream i).master
  unfolding segment_of
  the_written_x_is_at_most_R i from to =
      let declared = (accepted_as_demanded s bounds refined rounds H accepts).declared in
      omega (
        arith,
        written_x_is_the_figure s lent-places lent-x lent-rounds H urgent_first_accepts_it_too i from to,
        figure_within_the_bound S declared i from to (λ j lo hi same. none_late j lo hi),
      )
