-- Page 02, 'Ask 1', beside docs/DECISIONS.md, 'What a capture's bounds rest on', from the bytes of a sheet and of a capture: where a capture is
-- the log of a fault-free run of the model on an accepted sheet whose masters keep their spacing, and its successive records are less than
-- 2^31 bp apart, following it counts no request as too soon and no two records as too far apart, and finds no request open beyond its bound.
-- So of such a capture no line of the report says any of these. And where the log of a run is not refused as a capture and counts no request as
-- too soon, its masters keep their spacing: the line on these stands there exactly if some master breaks it. `planned` is what the planner answers, `bounded` and `stream_run` are what the
-- sheet gives to lay a capture beside, `followed` is what is kept of a capture, `answer_to` is what taking it answers, and `run_by` with `left_after`,
-- and `overdue_run`, are the runs of open requests and of those open for too long: all are words of contracts. Assumes nothing.
use Prim.Native.Nat.{ℕ, ◌+◌, ◌-◌, ◌*◌, ◌/◌, ◌^◌, ◌≤◌, ◌<◌}
use mathlib.Core.Path.{◌≡◌}
use mathlib.Core.Bool.{false}
use mathlib.Core.List.{List}
use lib.ListN.{length, get_or}
use Rattle.common.specs.Checks.Verdict.{Passed}
use Rattle.sheet_rules.specs.Sheets.{Sheet}
use Rattle.sheet_rules.specs.Whole.Outcome.{Read}
use Rattle.pnet_rules.specs.Segment.{segment_of}
use Rattle.pnet_plan.specs.Planned.{planned}
use Rattle.pnet_plan.proofs.Refusals.{accepted_exactly, pass_first}
use Rattle.pnet_run.specs.Run.{Belongs, Request, Answer, Queues, Token, first_come, Run}
use Rattle.pnet_run.specs.Promise.{Spaced, Accepted}
use Rattle.pnet_run.proofs.Queues.{first_come_keeps}
use Rattle.capture_log.specs.Log.{fresh}
use Rattle.capture_log.specs.Records.{size, events_in, heard}
use Rattle.pnet_bounds.specs.Bounded.{bounded, bound_of, spacing_of, jitter_of, stream_run}
use Rattle.pnet_bounds.proofs.Bounded.{bounded_read}
use Rattle.capture_tally.specs.Pieces.{before, answer_to, run_by, left_after}
use Rattle.capture_ages.specs.Ages.{clock, soon}
use Rattle.capture_ages.specs.Clock.{began}
use Rattle.capture_watch.specs.Follow.{most, Seen, seen, followed, met_in, overdue_run}
use Rattle.demands.specs.Logged.{log_of, instants_of, Close}
use Rattle.demands.proofs.Demand3.{accepted_as_demanded}
use Rattle.demands.proofs.Matching.{Punctual, AllSpaced}
use Rattle.demands.proofs.FirstCome.{first_come_counts, each_punctual}
use Rattle.demands.proofs.Beside.{zeros, none_counted_then_spaced, all_are_taken, none_too_soon, none_named, none_far, none_open_too_long}
use Rattle.std.specs.Bool.{⊤}
use Rattle.std.specs.declared.result.Result.TheVariants.{Ok}
use Rattle.std.specs.declared.result.Result.{Result}
use Rattle.common.specs.declared.Refusal.{Refusal}

-- the bytes s, and the planner's three lent runs; it accepts the sheet H that the bytes say
module _ (s bounds refined rounds : List ℕ) (H : Sheet) (accepts : planned s (length bounds) (length refined) (length rounds) ≡ Read H)
    -- a run of its bus that found the tester's counter at z
    {now : ℕ} {token : Token} {queues : Queues} {came : List Request} {went : List Answer} (run : Run (segment_of H) now token queues came went) (z : ℕ)
    -- its successive records are less than 2^31 bp apart, and it lasts for less than 2^64 - 1 bp
    (close : Close (instants_of run)) (lasts : now + 1 < 2 ^ 64)
    -- the bytes c, fewer than 2^64, have n records, those of the run's log
    (c : List ℕ) (n : ℕ) (few : length c < 2 ^ 64) (long : length c ≡ size * n) (logged : events_in c n ≡ log_of z run)
    -- the runs that are lent for each stream's bound, spacing and jitter
    (limits spacings jitters : List ℕ) where
  -- what these hold then
  abbrev pub R : List ℕ
  R = stream_run (bounded s most) bound_of limits

  abbrev pub T : List ℕ
  T = stream_run (bounded s most) spacing_of spacings

  abbrev pub J : List ℕ
  J = stream_run (bounded s most) jitter_of jitters

  -- what is kept of the capture behind its last record
  abbrev pub kept : Seen
  kept = followed T J (seen began zeros zeros) (met_in c (length c / size))

  -- what taking it answers, and 1 or 0 requests of each stream that are open then
  abbrev pub told : Result ⊤ Refusal
  told = answer_to c (length H.streams) (before zeros zeros)

  abbrev pub lefts : List ℕ
  lefts = run_by told (left_after c (before zeros zeros)) zeros

  -- ---- The sheet

  as_demanded : Accepted (segment_of H)
  as_demanded = accepted_as_demanded s bounds refined rounds H accepts

  streams_few : length H.streams ≤ most
  unfolding segment_of
  streams_few = as_demanded.declared.number_to

  -- a capture is laid beside it
  pub the_sheet_is_taken : bounded s most ≡ Read H
  unfolding segment_of
  the_sheet_is_taken =
      let p = (accepted_exactly s (length bounds) (length refined) (length rounds) H).0 accepts in
      bounded_read s most H p.on_bus.reads p.on_bus.pnet streams_few (pass_first (segment_of H) p.passes)

  -- by its bound each stream is punctual
  each : (m i : ℕ) → Belongs (segment_of H) m i → Punctual first_come first_come_keeps (segment_of H) m i (bound_of (segment_of H) i) (AllSpaced (segment_of H))
  unfolding bound_of
  each = each_punctual as_demanded

  -- ---- A capture that is not refused

  module _ (passes : heard c (length H.streams) fresh ≡ Passed) where
    -- where it counts no request as too soon, every master keeps its spacing
    pub none_counted_is_spacing_kept : kept.watch.soon ≡ 0 → (k : ℕ) → Spaced (segment_of H) k came
    none_counted_is_spacing_kept = none_counted_then_spaced first_come_counts (bounded s most) H the_sheet_is_taken as_demanded.declared bound_of each run z close lasts c n few long logged limits spacings jitters passes

  -- ---- Every master keeps its spacing

  module _ (spaced : (k : ℕ) → Spaced (segment_of H) k came) where
    -- all of its records are taken
    pub the_capture_is_taken : told ≡ Ok tt
    the_capture_is_taken = all_are_taken first_come_counts (bounded s most) H the_sheet_is_taken as_demanded.declared bound_of each run z close lasts c n few long logged limits spacings jitters spaced

    -- the count of requests that came too soon is 0, so no stream is named
    pub no_request_counts_as_too_soon : kept.watch.soon ≡ 0
    no_request_counts_as_too_soon = none_too_soon first_come_counts (bounded s most) H the_sheet_is_taken as_demanded.declared bound_of each run z close lasts c n few long logged limits spacings jitters spaced

    pub no_stream_is_named_as_too_soon : kept.watch.whose ≡ 0
    no_stream_is_named_as_too_soon = none_named first_come_counts (bounded s most) H the_sheet_is_taken as_demanded.declared bound_of each run z close lasts c n few long logged limits spacings jitters spaced

    -- no two successive records count as out of order or 2^31 bp apart
    pub ages_and_gaps_are_known : kept.watch.broken ≡ false
    ages_and_gaps_are_known = none_far first_come_counts (bounded s most) H the_sheet_is_taken as_demanded.declared bound_of each run z close lasts c n few long logged limits spacings jitters spaced

    -- of each stream
    module _ (i : ℕ) (from : 1 ≤ i) (to : i ≤ length H.streams) where
      -- no request counts as open for longer than the bound
      pub no_request_counts_as_open_too_long : get_or (overdue_run kept.watch.clock R lefts kept.asked) (i - 1) 0 ≡ 0
      no_request_counts_as_open_too_long = none_open_too_long first_come_counts (bounded s most) H the_sheet_is_taken as_demanded.declared bound_of each run z close lasts c n few long logged limits spacings jitters spaced i from to
