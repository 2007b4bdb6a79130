-- Page 02, 'Ask 1', from the bytes of a sheet and of a capture: where a capture is the log of a fault-free run of the model on an accepted
-- sheet whose masters keep their spacing, the count of answers above the bound is 0. `planned` is what the planner answers, `compared` what
-- laying the capture beside the sheet answers, and `stream_run` what a lent run then holds: all are words of contracts. Assumes nothing.
use Prim.Native.Nat.{ℕ, ◌-◌, ◌*◌, ◌≤◌}
use mathlib.Core.Path.{◌≡◌, refl, ap, ◌∙◌}
use mathlib.Core.List.{List}
use native.Mathlib.Omega.{arith}
use lib.ListN.{length, get_or}
use Rattle.common.specs.Sums.{up}
use Rattle.sheet_rules.specs.Sheets.{Sheet}
use Rattle.sheet_rules.specs.Whole.{Outcome}
use Rattle.sheet_rules.specs.Whole.Outcome.{Read}
use Rattle.pnet_rules.specs.Segment.{segment_of, bound}
use Rattle.pnet_plan.specs.Planned.{planned}
use Rattle.pnet_plan.proofs.Refusals as pnet
use Rattle.pnet_run.specs.Run.{Belongs, Request, Answer, Queues, Token, Run}
use Rattle.pnet_run.specs.Promise.{Spaced, Accepted}
use Rattle.capture_log.specs.declared.Event.{Event}
use Rattle.capture_log.specs.Log.{fresh, largest, above}
use Rattle.capture_log.specs.Records.{size, events_in, records, events}
use Rattle.capture_log.proofs.Refusals.{passed_exactly}
use Rattle.capture_compare.specs.Compared.{compared, largest_of, above_of}
use Rattle.pnet_bounds.specs.Bounded.{bound_of, stream_run}
use Rattle.capture_compare.specs.Refusals.{Room}
use Rattle.capture_compare.proofs.Refusals.{accepted_exactly}
use Rattle.demands.specs.Logged.{log_of}
use Rattle.demands.proofs.Demand3.{accepted_as_demanded}
use Rattle.demands.proofs.Beside.{at_its_place}
use Rattle.demands.proofs.Captured.{no_answer_above_the_bound, each_largest_within_the_bound, the_capture_passes}

-- the bytes s, and the planner's three lent runs; it accepts the sheet H that the bytes say
module _ (s bounds refined rounds : List ℕ) (H : Sheet) (accepts : planned s (length bounds) (length refined) (length rounds) ≡ Read H)
    -- a run of its bus that found the tester's counter at z, in which every master keeps its spacing
    {now : ℕ} {token : Token} {queues : Queues} {came : List Request} {went : List Answer} (run : Run (segment_of H) now token queues came went) (z : ℕ)
    (spaced : (k : ℕ) → Spaced (segment_of H) k came)
    -- the bytes c have n records, those of the run's log
    (c : List ℕ) (n : ℕ) (long : length c ≡ size * n) (logged : events_in c n ≡ log_of z run)
    -- the four runs that are lent with it have a place for each stream
    (answers largests aboves lefts : List ℕ) (room : Room (length answers) (length largests) (length aboves) (length lefts) (length H.streams)) where
  -- what laying the capture beside the sheet answers
  abbrev pub answer : Outcome
  answer = compared s c (length answers) (length largests) (length aboves) (length lefts)

  as_demanded : Accepted (segment_of H)
  as_demanded = accepted_as_demanded s bounds refined rounds H accepts

  -- sheet and capture are accepted
  pub the_capture_is_accepted : answer ≡ Read H
  unfolding segment_of
  the_capture_is_accepted =
      let p = (pnet.accepted_exactly s (length bounds) (length refined) (length rounds) H).0 accepts in
      let heard = the_capture_passes (segment_of H) as_demanded run z spaced c n long logged in
      (accepted_exactly s c (length answers) (length largests) (length aboves) (length lefts) H).1
      (record {
        sheet = record { on_bus = p.on_bus; room = room; passes = p.passes };
        capture = (passed_exactly c (length H.streams)).0 heard;
      })

  all_events : events c ≡ log_of z run
  unfolding events records up
  all_events = let e : records c ≡ n = omega arith in ap (events_in c) e ∙ logged

  -- of each stream
  module _ (i : ℕ) (from : 1 ≤ i) (to : i ≤ length H.streams) where
    own : Belongs (segment_of H) ((segment_of H).stream i).master i
    unfolding segment_of
    own = record { from_one = from; to_last = to; own = refl }

    -- the count of answers above the bound is 0
    pub the_count_above_the_bound_is_0 : get_or (stream_run answer (above_of c) aboves) (i - 1) 0 ≡ 0
    unfolding above_of bound_of
    the_count_above_the_bound_is_0 =
        at_its_place the_capture_is_accepted i from to (above_of c) aboves
        ∙ (ap (λ (es : List Event). above fresh (bound_of (segment_of H) i) es i) all_events
        ∙ no_answer_above_the_bound (segment_of H) as_demanded run z ((segment_of H).stream i).master (spaced ((segment_of H).stream i).master) i own)

    -- and the largest response is within it
    pub the_largest_is_within_the_bound : get_or (stream_run answer (largest_of c) largests) (i - 1) 0 ≤ bound (segment_of H) ((segment_of H).stream i).master
    unfolding largest_of
    the_largest_is_within_the_bound =
        let e = at_its_place the_capture_is_accepted i from to (largest_of c) largests ∙ ap (λ (es : List Event). largest fresh es i) all_events in
        omega (arith, e, each_largest_within_the_bound (segment_of H) as_demanded run z ((segment_of H).stream i).master (spaced ((segment_of H).stream i).master) i own)
