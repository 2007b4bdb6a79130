-- Page 02, 'Ask 1' beside 'Ask 11', from the bytes of a sheet and of a capture: where a capture is the log of a run of the model on a sheet that urgent requests first accept,
-- whose masters hand down the most urgent request first and keep their spacing, and its successive records are less than 2^31 bp apart, what the code keeps of it counts no answer above x, no
-- request as too soon or as open beyond x, and no two records as too far apart. So of such a capture no line of the report says any of these. And where the log of such a run is not refused
-- as a capture and counts no request as too soon, its masters keep their spacing. What is kept of a capture, and the runs of each stream, are those of crates/demands: Beside, with x in place
-- of R. Assumes nothing.
use Prim.Native.Nat.{ℕ, ◌+◌, ◌*◌, ◌/◌, ◌^◌, ◌≤◌, ◌<◌}
use mathlib.Core.Path.{◌≡◌}
use mathlib.Core.Bool.{false}
use mathlib.Core.List.{List}
use lib.ListN.{length}
use Rattle.common.specs.Checks.Verdict.{Passed}
use Rattle.sheet_rules.specs.Sheets.{Sheet}
use Rattle.sheet_rules.specs.Whole.Outcome.{Read}
use Rattle.pnet_rules.specs.Segment.{Segment, segment_of}
use Rattle.pnet_rules.specs.Limits.{Declared}
use Rattle.pnet_run.specs.Run.{Belongs, Request, Answer, Token, RunBy}
use Rattle.pnet_urgent_rules.specs.Urgent.{figure}
use Rattle.pnet_urgent_rules.specs.Planned.{urgently}
use Rattle.pnet_urgent_rules.specs.Refusals.{Accepted}
use Rattle.pnet_urgent_rules.proofs.Refusals.{accepted_exactly}
use Rattle.pnet_urgent_run.specs.Stack.{Held, Everyone, stacked}
use Rattle.pnet_urgent_run.proofs.Kept.{stacked_keeps}
use Rattle.capture_log.specs.Log.{fresh}
use Rattle.capture_log.specs.Records.{size, events_in, heard}
use Rattle.pnet_bounds.specs.Bounded.{spacing_of, jitter_of, stream_run}
use Rattle.capture_tally.specs.Pieces.{before, answer_to, run_by, left_after, largest_after, above_after}
use Rattle.capture_ages.specs.Clock.{began}
use Rattle.capture_watch.specs.Follow.{most, Seen, seen, followed, met_in, overdue_run}
use Rattle.demands.specs.Logged.{log_of, instants_of, Close}
use Rattle.demands.proofs.Matching.{Punctual, AllSpaced}
use Rattle.demands.proofs.Beside.{zeros}
use Rattle.demands.proofs.Beside as beside
use Rattle.demands_urgent.specs.Written.{written_at}
use Rattle.demands_urgent.proofs.Written.{in_range_law, all_met}
use Rattle.demands_urgent.proofs.Captured.{stacked_counts, each_punctual}
use Rattle.std.specs.Bool.{⊤}
use Rattle.std.specs.declared.result.Result.TheVariants.{Ok}
use Rattle.std.specs.declared.result.Result.{Result}
use Rattle.common.specs.declared.Refusal.{Refusal}

-- the bytes s; with a place for each of 800 streams, urgent requests first accept the sheet H that they say
module _ (s : List ℕ) (H : Sheet) (accepts : urgently s most ≡ Read H)
    -- a run of its bus that found the tester's counter at z
    {now : ℕ} {token : Token} {held : ℕ → Held} {came : List Request} {went : List Answer} (run : RunBy (stacked (segment_of H) Everyone) (segment_of H) now token held came went)
    (z : ℕ)
    -- its successive records are less than 2^31 bp apart, and it lasts for less than 2^64 - 1 bp
    (close : Close (instants_of run)) (lasts : now + 1 < 2 ^ 64)
    -- the bytes c, fewer than 2^64, have n records, those of the run's log
    (c : List ℕ) (n : ℕ) (few : length c < 2 ^ 64) (long : length c ≡ size * n) (logged : events_in c n ≡ log_of z run)
    -- the runs that are lent for each stream's x, spacing and jitter
    (limits spacings jitters : List ℕ) where
  -- what these hold then
  abbrev pub X : List ℕ
  X = stream_run (urgently s most) figure limits

  abbrev pub T : List ℕ
  T = stream_run (urgently s most) spacing_of spacings

  abbrev pub J : List ℕ
  J = stream_run (urgently s most) jitter_of jitters

  -- what is kept of the capture behind its last record
  abbrev pub kept : Seen
  kept = followed T J (seen began zeros zeros) (met_in c (length c / size))

  -- what taking it answers; and of each stream, 1 or 0 requests that are open then, its answers above x and its largest response
  abbrev pub told : Result ⊤ Refusal
  told = answer_to c (length H.streams) (before zeros zeros)

  abbrev pub lefts : List ℕ
  lefts = run_by told (left_after c (before zeros zeros)) zeros

  abbrev pub aboves : List ℕ
  aboves = run_by told (above_after c (before zeros zeros) X zeros) zeros

  abbrev pub largests : List ℕ
  largests = run_by told (largest_after c (before zeros zeros) zeros) zeros

  -- ---- By its x each stream is punctual

  abbrev S : Segment
  S = segment_of H

  accepted : Accepted s most H
  accepted = (accepted_exactly s most H).0 accepts

  declared : Declared S
  declared = in_range_law s most H accepted

  each : (m i : ℕ) → Belongs S m i → Punctual (stacked S Everyone) (stacked_keeps S Everyone) S m i (figure S i) (AllSpaced S)
  each = each_punctual S declared (all_met s most H accepted) Everyone (λ m. tt)

  -- ---- A capture that is not refused

  -- where it counts no request as too soon, every master keeps its spacing
  pub none_counted_is_spacing_kept : heard c (length H.streams) fresh ≡ Passed → kept.watch.soon ≡ 0 → AllSpaced S came
  none_counted_is_spacing_kept = beside.none_counted_then_spaced (stacked_counts S Everyone) (urgently s most) H accepts declared figure each run z close lasts c n few long logged limits spacings jitters

  -- ---- Every master keeps its spacing

  module _ (spaced : AllSpaced S came) where
    -- all of its records are taken
    pub the_capture_is_taken : told ≡ Ok tt
    the_capture_is_taken = beside.all_are_taken (stacked_counts S Everyone) (urgently s most) H accepts declared figure each run z close lasts c n few long logged limits spacings jitters spaced

    -- the count of requests that came too soon is 0, so no stream is named
    pub no_request_counts_as_too_soon : kept.watch.soon ≡ 0
    no_request_counts_as_too_soon = beside.none_too_soon (stacked_counts S Everyone) (urgently s most) H accepts declared figure each run z close lasts c n few long logged limits spacings jitters spaced

    pub no_stream_is_named_as_too_soon : kept.watch.whose ≡ 0
    no_stream_is_named_as_too_soon = beside.none_named (stacked_counts S Everyone) (urgently s most) H accepts declared figure each run z close lasts c n few long logged limits spacings jitters spaced

    -- no two successive records count as out of order or 2^31 bp apart
    pub ages_and_gaps_are_known : kept.watch.broken ≡ false
    ages_and_gaps_are_known = beside.none_far (stacked_counts S Everyone) (urgently s most) H accepts declared figure each run z close lasts c n few long logged limits spacings jitters spaced

    -- of each stream
    module _ (i : ℕ) (from : 1 ≤ i) (to : i ≤ length H.streams) where
      -- the count of its answers above x is 0
      pub the_count_above_x_is_0 : written_at aboves i ≡ 0
      the_count_above_x_is_0 = beside.none_above (stacked_counts S Everyone) (urgently s most) H accepts declared figure each run z close lasts c n few long logged limits spacings jitters spaced i from to

      -- its largest response is within x
      pub the_largest_is_within_x : written_at largests i ≤ figure S i
      the_largest_is_within_x = beside.largest_within (stacked_counts S Everyone) (urgently s most) H accepts declared figure each run z close lasts c n few long logged limits spacings jitters spaced i from to

      -- no request counts as open for longer than x
      pub no_request_counts_as_open_too_long : written_at (overdue_run kept.watch.clock X lefts kept.asked) i ≡ 0
      no_request_counts_as_open_too_long = beside.none_open_too_long (stacked_counts S Everyone) (urgently s most) H accepts declared figure each run z close lasts c n few long logged limits spacings jitters spaced i from to
