-- Each number that a capture can be given, on a short one for a sheet of two streams, in the page's words. So no line is empty.
-- Assumes nothing.
use Rattle.std.proofs.Common.{ℕ, List, [], ◌∷◌, refl}
use Rattle.common.specs.Checks.{verdict}
use Rattle.common.specs.Sums.{up, first_of}
use Rattle.sheet_record.specs.Numbers.{be}
use Rattle.sheet_record.specs.Kinds.{within}
use Rattle.capture_log.specs.Log.{asks, answers, left}
use Rattle.capture_log.specs.Records.{event_at, events_in, known, event_checks, judge, records, taken, heard}
use Rattle.capture_log.specs.Refusals.{Given, AllTaken}
use Rattle.capture_log.proofs.Refusals.{given_exactly, passed_exactly}

-- a record of kind k and stream i, stamped 0, before others
abbrev put : ℕ → ℕ → List ℕ → List ℕ
put k i rest = k ∷ 0 ∷ i ∷ 0 ∷ 0 ∷ 0 ∷ 0 ∷ rest

-- kind 2, a sheet's, behind a request
pub unknown_2 : Given (put 16 1 (2 ∷ [])) 2 2 7
unfolding heard taken records judge known event_checks event_at events_in left asks answers within be verdict up first_of
unknown_2 = (given_exactly (put 16 1 (2 ∷ [])) 2 2 7).0 refl

-- the capture ends inside an answer
pub cut_1 : Given (put 16 1 (17 ∷ 0 ∷ [])) 2 1 7
unfolding heard taken records judge known event_checks event_at events_in left asks answers within be verdict up first_of
cut_1 = (given_exactly (put 16 1 (17 ∷ 0 ∷ [])) 2 1 7).0 refl

-- stream 3
pub not_on_sheet_14 : Given (put 16 3 []) 2 14 0
unfolding heard taken records judge known event_checks event_at events_in left asks answers within be verdict up first_of
not_on_sheet_14 = (given_exactly (put 16 3 []) 2 14 0).0 refl

-- stream 1 asks, and stream 2 answers
pub unasked_15 : Given (put 16 1 (put 17 2 [])) 2 15 7
unfolding heard taken records judge known event_checks event_at events_in left asks answers within be verdict up first_of
unasked_15 = (given_exactly (put 16 1 (put 17 2 [])) 2 15 7).0 refl

-- stream 1 asks, stream 2 asks, and stream 1 asks again
pub asked_twice_16 : Given (put 16 1 (put 16 2 (put 16 1 []))) 2 16 14
unfolding heard taken records judge known event_checks event_at events_in left asks answers within be verdict up first_of
asked_twice_16 = (given_exactly (put 16 1 (put 16 2 (put 16 1 []))) 2 16 14).0 refl

-- stream 1 asks, is answered, and asks again
pub all_taken : AllTaken (put 16 1 (put 17 1 (put 16 1 []))) 2
unfolding heard taken records judge known event_checks event_at events_in left asks answers within be verdict up first_of
all_taken = (passed_exactly (put 16 1 (put 17 1 (put 16 1 []))) 2).0 refl
