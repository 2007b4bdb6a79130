-- A capture on the page's worked segment, byte by byte: one request of stream 1, whose answer takes 210 bp, while the counter runs over to zero.
-- So nothing that Captured, CapturedBytes, Watched and WatchedBytes suppose is empty. Assumes nothing.
use Prim.Native.Nat.{ℕ, ◌/◌}
use mathlib.Core.Path.{◌≡◌, refl, ap}
use mathlib.Core.Bool.{true, false}
use mathlib.Core.List.Memᴰ
use mathlib.Core.List.{List, [], ◌∷◌, Memᴰ}
use native.Mathlib.Omega.{arith}
use lib.ListN.{length}
use Rattle.common.specs.Checks.Verdict.{Passed}
use Rattle.sheet_record.specs.Numbers.{be}
use Rattle.sheet_rules.specs.Whole.Outcome.{Read}
use Rattle.pnet_rules.specs.Segment.{segment_of, stream_at, bound}
use Rattle.pnet_run.specs.Run.{Belongs, Request, request, answer, put, join, toward, on_way, next, Run, start, complete, arrive, serve}
use Rattle.pnet_run.specs.Promise.{none, and, Spaced}
use Rattle.pnet_run.proofs.Spacing.{apart_kept}
use Rattle.capture_log.specs.Log.{stamp_at, fresh, largest, asks, answers, around, left, since, shown}
use Rattle.capture_log.specs.Records.{size, event_at, events_in, heard}
use Rattle.pnet_bounds.specs.Bounded.{bounded, spacing_of, jitter_of, stream_run}
use Rattle.capture_compare.specs.Compared.{compared}
use Rattle.capture_compare.specs.Refusals.{Room}
use Rattle.capture_ages.specs.Ages.{step, clock, asked, soon, beyond}
use Rattle.capture_ages.specs.Clock.{began}
use Rattle.capture_watch.specs.Follow.{most, seen, followed, met_in}
use Rattle.demands.specs.Logged.{log_of, instants_of, Close, one, and as near}
use Rattle.demands.proofs.Demand3.{accepted_as_demanded}
use Rattle.demands.proofs.PageCase.{sheet, bytes, lent, page, accepts}
use Rattle.demands.proofs.Captured.{the_capture_passes}
use Rattle.demands.proofs.CapturedBytes.{the_capture_is_accepted}
use Rattle.demands.proofs.Watched.{no_request_too_soon, no_request_open_beyond_the_bound}
use Rattle.demands.proofs.Beside.{zeros}
use Rattle.demands.proofs.WatchedBytes.{no_request_counts_as_too_soon}

-- the token is at master 1 when its stream 1 asks: 7 bp reaction, 203 bp message
unfoldable pub run : Run page 210 (toward (next page.masters 1) 40) (put (join (λ y. []) 1 (request 1 0)) 1 []) (request 1 0 ∷ [])
    (answer (request 1 0) 210 ∷ [])
unfolding sheet segment_of stream_at put
run =
    let from : Run page 0 (toward 1 0) (λ y. []) [] [] = start {m = 1} {d = 0} (omega arith) (omega arith) (omega arith) in
    let own : Belongs page 1 1 = record { from_one = omega arith; to_last = omega arith; own = refl } in
    complete (serve {c = 0} 210 7 203 (arrive from on_way own) refl (omega arith) (omega arith) (omega arith) (omega arith) (omega arith) refl) refl

-- 100 bp before the counter runs over: stamps 4,294,967,196 and 110
unfoldable pub capture : List ℕ
capture = 16 ∷ 0 ∷ 1 ∷ 255 ∷ 255 ∷ 255 ∷ 156 ∷ 17 ∷ 0 ∷ 1 ∷ 0 ∷ 0 ∷ 0 ∷ 110 ∷ []

pub capture_is_the_log : events_in capture 2 ≡ log_of 4294967196 run
unfolding capture run log_of stamp_at events_in event_at be
capture_is_the_log = refl

pub shows_210 : largest fresh (log_of 4294967196 run) 1 ≡ 210
unfolding run log_of stamp_at largest asks answers around since shown
shows_210 = refl

spaced : (k : ℕ) → Spaced page k (request 1 0 ∷ [])
spaced k i b = apart_kept (page.stream i).jitter (and (λ e a j. absurd (Memᴰ.not-nil j)) none)

pub it_passes : heard capture page.number fresh ≡ Passed
unfolding capture
it_passes = the_capture_passes page (accepted_as_demanded bytes lent lent lent sheet accepts) run 4294967196 spaced capture 2 refl capture_is_the_log

-- ---- Laid beside the sheet, with a place for each of its 8 streams in each lent run

abbrev eight : List ℕ
eight = 0 ∷ 0 ∷ 0 ∷ 0 ∷ 0 ∷ 0 ∷ 0 ∷ 0 ∷ []

room : Room (length eight) (length eight) (length eight) (length eight) (length sheet.streams)
unfolding sheet
room = record { for_answers = omega arith; for_largest = omega arith; for_above = omega arith; for_left = omega arith }

pub it_is_accepted : compared bytes capture (length eight) (length eight) (length eight) (length eight) ≡ Read sheet
unfolding capture
it_is_accepted = the_capture_is_accepted bytes lent lent lent sheet accepts run 4294967196 spaced capture 2 refl capture_is_the_log eight eight eight eight room

-- ---- Followed by a clock that goes on where the counter runs over

close : Close (instants_of run)
unfolding run instants_of
close = near {s = 0} {t = 210} (omega arith) one

pub shows_211 : clock (log_of 4294967196 run) ≡ 211
unfolding run log_of stamp_at clock step around
shows_211 = refl

pub none_too_soon : soon (λ i. (page.stream i).spacing) (λ i. (page.stream i).jitter) (log_of 4294967196 run) ≡ 0
none_too_soon = no_request_too_soon page run 4294967196 close (accepted_as_demanded bytes lent lent lent sheet accepts).declared spaced

-- the same from its bytes, with runs of zeros lent for bounds, spacings and jitters
pub none_counts_as_too_soon : (followed (stream_run (bounded bytes most) spacing_of zeros) (stream_run (bounded bytes most) jitter_of zeros) (seen began zeros zeros) (met_in capture (length capture / size))).watch.soon
    ≡ 0
unfolding capture
none_counts_as_too_soon =
    no_request_counts_as_too_soon bytes lent lent lent sheet accepts run 4294967196 close (omega arith) capture 2 (omega arith) refl capture_is_the_log
    zeros zeros zeros spaced

-- stream 2 asks with stream 1, and still waits when that one has its answer
unfoldable pub both : Run page 210 (toward (next page.masters 1) 40) (put (join (join (λ y. []) 1 (request 1 0)) 1 (request 2 0)) 1 (request 2 0 ∷ []))
    (request 2 0 ∷ request 1 0 ∷ []) (answer (request 1 0) 210 ∷ [])
unfolding sheet segment_of stream_at put
both =
    let from : Run page 0 (toward 1 0) (λ y. []) [] [] = start {m = 1} {d = 0} (omega arith) (omega arith) (omega arith) in
    let own1 : Belongs page 1 1 = record { from_one = omega arith; to_last = omega arith; own = refl } in
    let own2 : Belongs page 1 2 = record { from_one = omega arith; to_last = omega arith; own = refl } in
    complete
    (serve {c = 0} 210 7 203 (arrive (arrive from on_way own1) on_way own2) refl (omega arith) (omega arith) (omega arith) (omega arith) (omega arith) refl) refl

both_close : Close (instants_of both)
unfolding both instants_of
both_close = near {s = 0} {t = 210} (omega arith) (near {s = 0} {t = 0} (omega arith) one)

both_spaced : (k : ℕ) → Spaced page k (request 2 0 ∷ request 1 0 ∷ [])
both_spaced k i b = apart_kept (page.stream i).jitter (and (λ e a j. absurd (others e j)) (and (λ e a j. absurd (Memᴰ.not-nil j)) none))
  where
    others : {a : ℕ} → 2 ≡ i → Memᴰ (request i a) (request 1 0 ∷ []) → ⊥
    others e j = let f = ap (λ (r : Request). r.of) (Memᴰ.eq_of_singleton j) in omega arith

-- it has been open for 210 bp at the latest record, which is not beyond the bound
pub open_for_more_than_209 : beyond 209 (log_of 4294967196 both) 2 ≡ true
unfolding both log_of stamp_at beyond clock step around asked asks answers left
open_for_more_than_209 = refl

pub none_beyond_the_bound : beyond (bound page 1) (log_of 4294967196 both) 2 ≡ false
unfolding sheet segment_of stream_at
none_beyond_the_bound =
    no_request_open_beyond_the_bound page both 4294967196 both_close (accepted_as_demanded bytes lent lent lent sheet accepts) 1 (both_spaced 1) 2
    (record { from_one = omega arith; to_last = omega arith; own = refl })
