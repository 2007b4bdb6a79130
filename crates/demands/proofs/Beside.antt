-- A capture that is laid beside a sheet, as the code keeps it, where it is the log of a run whose streams are punctual, by any discipline: where the masters keep their spacing and
-- successive records are less than 2^31 bp apart, no answer counts as above its stream's figure, no request as too soon or as open beyond it, and no two records as too far apart; and where
-- the log of a run is not refused as a capture and counts no request as too soon, its masters keep their spacing. `given` is what the sheet's bytes gave, and `stream_run` are its
-- streams' figures, spacings and jitters; `followed` is what is kept of a capture, `answer_to` is what taking it answers, and `run_by` with `left_after`, `above_after`
-- and `largest_after`, and `overdue_run`, are runs of each stream: all are words of contracts. Assumes nothing.
use Prim.Native.Nat.{ℕ, ◌+◌, ◌-◌, ◌*◌, ◌/◌, ◌^◌, ◌≤◌, ◌<◌}
use mathlib.Core.Path.{◌≡◌, refl, sym, ap, ◌∙◌}
use mathlib.Core.Bool.{false}
use mathlib.Core.List.{List}
use native.Mathlib.Omega.{arith}
use lib.ListN.{length, get_or, replicate, length-replicate}
use Rattle.common.specs.Checks.Verdict.{Passed}
use Rattle.common.proofs.Runs.{zero_at, filled_at}
use Rattle.sheet_rules.specs.Sheets.{Sheet}
use Rattle.sheet_rules.specs.Whole.{Outcome}
use Rattle.sheet_rules.specs.Whole.Outcome.{Read}
use Rattle.pnet_rules.specs.Segment.{Segment, segment_of}
use Rattle.pnet_rules.specs.Limits.{Declared}
use Rattle.pnet_plan.specs.Planned.{at_place}
use Rattle.pnet_run.specs.Run.{Belongs, Request, Answer, Token, Discipline, RunBy}
use Rattle.pnet_run.proofs.Keeping.{Keeps}
use Rattle.capture_log.specs.Log.{fresh, left}
use Rattle.capture_log.specs.Records.{size, events_in, events, heard}
use Rattle.pnet_bounds.specs.Bounded.{spacing_of, jitter_of, stream_run}
use Rattle.capture_tally.specs.Pieces.{before, answer_to, run_by, left_after, largest_after, above_after}
use Rattle.capture_compare.proofs.Told.{whole_taken, left_whole, largest_whole, above_whole}
use Rattle.capture_ages.specs.Ages.{clock, soon, beyond}
use Rattle.capture_ages.specs.Clock.{began}
use Rattle.capture_watch.specs.Follow.{most, Seen, seen, followed, met_in, overdue_run}
use Rattle.capture_watch.proofs.Means.{of_stream, Keeps as Means, overdue_means}
use Rattle.capture_watch.proofs.Passed.{passed_count, passed_means}
use Rattle.demands.specs.Logged.{log_of, instants_of, Close}
use Rattle.demands.proofs.Matching.{Counts, Punctual, AllSpaced, Within, all_within, above_none, largest_most}
use Rattle.demands.proofs.Passing.{all_pass, none_refused}
use Rattle.demands.proofs.Clocked.{recorded, clock_within, unbroken, Timely, timely, timely_kept, soon_none, whose_none, none_soon, open_within}
use Rattle.std.specs.Bool.{⊤}
use Rattle.std.specs.declared.result.Result.TheVariants.{Ok}
use Rattle.std.specs.declared.result.Result.{Result}
use Rattle.common.specs.declared.Refusal.{Refusal}

-- 800 places that hold nothing yet
unfoldable pub zeros : List ℕ
zeros = replicate most 0

zeros_long : length zeros ≡ most
unfolding zeros
zeros_long = length-replicate {A = ℕ} most 0

zeros_each : (i : ℕ) → i < most → get_or zeros i 0 ≡ 0
unfolding zeros
zeros_each i l = zero_at most i

-- what a run that is lent for a figure of each stream holds at the place of stream i
pub at_its_place : {given : Outcome} {H : Sheet} → given ≡ Read H → (i : ℕ) → 1 ≤ i → i ≤ length H.streams → (figure : Segment → ℕ → ℕ) (old : List ℕ)
    → get_or (stream_run given figure old) (i - 1) 0 ≡ figure (segment_of H) i
at_its_place {H = H} is i from to figure old =
    let e : i - 1 + 1 ≡ i = omega arith in
    rw is (filled_at (at_place (figure (segment_of H))) (length H.streams) (i - 1) old (omega arith) ∙ ap (figure (segment_of H)) e)

-- the sheet H that a capture is laid beside
module _ {D : Discipline} {K : Keeps D} (C : Counts D K) (given : Outcome) (H : Sheet) (is : given ≡ Read H) (declared : Declared (segment_of H))
    -- each stream is punctual by its figure, where every master keeps its spacing
    (figure : Segment → ℕ → ℕ)
    (punctual : (m i : ℕ) → Belongs (segment_of H) m i → Punctual D K (segment_of H) m i (figure (segment_of H) i) (AllSpaced (segment_of H)))
    -- a run of its bus that found the tester's counter at z
    {now : ℕ} {token : Token} {q : ℕ → D.State} {came : List Request} {went : List Answer} (run : RunBy D (segment_of H) now token q came went) (z : ℕ)
    -- its successive records are less than 2^31 bp apart, and it lasts for less than 2^64 - 1 bp
    (close : Close (instants_of run)) (lasts : now + 1 < 2 ^ 64)
    -- the bytes c, fewer than 2^64, have n records, those of the run's log
    (c : List ℕ) (n : ℕ) (few : length c < 2 ^ 64) (long : length c ≡ size * n) (logged : events_in c n ≡ log_of z run)
    -- the runs that are lent for each stream's figure, spacing and jitter
    (limits spacings jitters : List ℕ) where
  -- what these hold then
  abbrev pub R : List ℕ
  R = stream_run given figure limits

  abbrev pub T : List ℕ
  T = stream_run given spacing_of spacings

  abbrev pub J : List ℕ
  J = stream_run given jitter_of jitters

  -- what is kept of the capture behind its last record
  abbrev pub kept : Seen
  kept = followed T J (seen began zeros zeros) (met_in c (length c / size))

  -- what taking it answers; and of each stream, 1 or 0 requests that are open then, its answers above the figure and its largest response
  abbrev pub told : Result ⊤ Refusal
  told = answer_to c (length H.streams) (before zeros zeros)

  abbrev pub lefts : List ℕ
  lefts = run_by told (left_after c (before zeros zeros)) zeros

  abbrev pub aboves : List ℕ
  aboves = run_by told (above_after c (before zeros zeros) R zeros) zeros

  abbrev pub largests : List ℕ
  largests = run_by told (largest_after c (before zeros zeros) zeros) zeros

  -- ---- The records

  streams_few : length H.streams ≤ most
  unfolding segment_of
  streams_few = declared.number_to

  all_records : events_in c (length c / size) ≡ log_of z run
  all_records = let e : length c / size ≡ n = omega arith in ap (events_in c) e ∙ logged

  short : clock (events_in c (length c / size)) < 2 ^ 64
  short = rw all_records (omega (arith, clock_within (recorded z run close)))

  -- T and J of a stream of the segment
  spacing_is : {k i : ℕ} → Belongs (segment_of H) k i → of_stream T i ≡ spacing_of (segment_of H) i
  unfolding segment_of
  spacing_is {i = i} own = at_its_place is i own.from_one own.to_last spacing_of spacings

  jitter_is : {k i : ℕ} → Belongs (segment_of H) k i → of_stream J i ≡ jitter_of (segment_of H) i
  unfolding segment_of
  jitter_is {i = i} own = at_its_place is i own.from_one own.to_last jitter_of jitters

  -- ---- A capture that is not refused

  module _ (passes : heard c (length H.streams) fresh ≡ Passed) where
    means : Means T J (events_in c (length c / size)) kept
    means = passed_means c (length H.streams) passes streams_few T J zeros zeros_long zeros_each few short

    -- where it counts no request as too soon, every master keeps its spacing
    pub none_counted_then_spaced : kept.watch.soon ≡ 0 → AllSpaced (segment_of H) came
    none_counted_then_spaced none k i own =
        let all : soon (of_stream T) (of_stream J) (log_of z run) ≡ 0 = rw all_records at (sym means.soon_is ∙ none) in
        let d = timely_kept (of_stream T) (of_stream J) z run close (none_soon (of_stream T) (of_stream J) (log_of z run) all) i in
        (d.0, rw (spacing_is own, jitter_is own) at d.1)

  -- ---- Every master keeps its spacing

  module _ (spaced : AllSpaced (segment_of H) came) where
    pub passes : heard c (length H.streams) fresh ≡ Passed
    unfolding segment_of
    passes = none_refused c (length H.streams) n long (rw logged (all_pass C (figure (segment_of H)) punctual z run spaced))

    -- all of its records are taken
    pub all_are_taken : told ≡ Ok tt
    unfolding zeros
    all_are_taken = whole_taken c (length H.streams) streams_few passes

    all_events : events c ≡ events_in c (length c / size)
    unfolding events
    all_events = ap (events_in c) (passed_count c (length H.streams) passes)

    left_at : (i : ℕ) → i < most → get_or lefts i 0 ≡ left fresh (events_in c (length c / size)) (i + 1)
    unfolding zeros
    left_at i l = rw (all_are_taken, ← all_events) (left_whole c i l)

    in_time : Timely (of_stream T) (of_stream J) (log_of z run)
    in_time =
        timely (of_stream T) (of_stream J) declared (λ k i own. omega (arith, spacing_is own)) (λ k i own. omega (arith, jitter_is own)) z run close spaced

    -- the count of requests that came too soon is 0, so no stream is named
    pub none_too_soon : kept.watch.soon ≡ 0
    none_too_soon = (means passes).soon_is ∙ rw all_records (soon_none in_time)

    pub none_named : kept.watch.whose ≡ 0
    none_named = (means passes).whose_is ∙ rw all_records (whose_none in_time)

    -- no two successive records count as out of order or 2^31 bp apart
    pub none_far : kept.watch.broken ≡ false
    none_far = (means passes).broken_is ∙ rw all_records (unbroken (recorded z run close))

    -- of each stream
    module _ (i : ℕ) (from : 1 ≤ i) (to : i ≤ length H.streams) where
      own : Belongs (segment_of H) ((segment_of H).stream i).master i
      unfolding segment_of
      own = record { from_one = from; to_last = to; own = refl }

      here : i - 1 < most
      here = omega (arith, streams_few)

      figure_is : get_or R (i - 1) 0 ≡ figure (segment_of H) i
      figure_is = at_its_place is i from to figure limits

      within : Within (figure (segment_of H) i) i (log_of z run)
      within = all_within C (punctual ((segment_of H).stream i).master i own) z run spaced

      -- the count of its answers above the figure is 0
      pub none_above : get_or aboves (i - 1) 0 ≡ 0
      unfolding zeros
      none_above =
          let e : i - 1 + 1 ≡ i = omega arith in
          let all : events c ≡ log_of z run = all_events ∙ all_records in
          rw all_are_taken (above_whole c (i - 1) here few R ∙ rw (figure_is, all, e) (above_none within))

      pub largest_within : get_or largests (i - 1) 0 ≤ figure (segment_of H) i
      unfolding zeros
      largest_within =
          let e : i - 1 + 1 ≡ i = omega arith in
          let all : events c ≡ log_of z run = all_events ∙ all_records in
          rw (all_are_taken, largest_whole c (i - 1) here, all, e) (largest_most within)

      -- and no request of it counts as open for longer
      pub none_open_too_long : get_or (overdue_run kept.watch.clock R lefts kept.asked) (i - 1) 0 ≡ 0
      none_open_too_long =
          let e : i - 1 + 1 ≡ i = omega arith in
          let young : beyond (figure (segment_of H) i) (log_of z run) i ≡ false = open_within C (punctual ((segment_of H).stream i).master i own) z run close spaced in
          overdue_means (means passes) short R lefts left_at (i - 1) here ∙ rw (all_records, e, figure_is, young) refl
