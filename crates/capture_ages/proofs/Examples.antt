-- Short captures, the latest record first: what the definitions say of them. Assumes nothing.
use Rattle.std.proofs.Common.{◌≡◌, ℕ, true, false, List, [], ◌∷◌, refl, arith}
use Rattle.capture_log.specs.declared.Event.{Event}
use Rattle.capture_log.specs.Log.{asks, answers, stamp_at, around, left}
use Rattle.capture_ages.specs.Ages.{step, clock, far, broken, asked, lead_behind, kept_lead, lead, early, soon, whose, beyond}
use Rattle.capture_ages.specs.Timed.{Timed}
use Rattle.capture_ages.specs.Timed.Timed.{one, next}

abbrev asks_at : ℕ → ℕ → Event
asks_at i stamp = record { kind = 16; stream = i; stamp = stamp }

abbrev answers_at : ℕ → ℕ → Event
answers_at i stamp = record { kind = 17; stream = i; stamp = stamp }

-- stream 1 asks 16 bp before the counter runs over, is answered 16 bp behind it, and asks again 48 bp behind its first request
abbrev pub wrapped : List Event
wrapped = asks_at 1 0x20 ∷ answers_at 1 0x10 ∷ asks_at 1 0xfffffff0 ∷ []

pub clock_over_the_wrap : clock wrapped ≡ 49
unfolding clock step around
clock_over_the_wrap = refl

pub one_too_soon : soon (λ i. 100) (λ i. 0) wrapped ≡ 1
unfolding soon early lead lead_behind kept_lead asked asks clock step around
one_too_soon = refl

pub by_stream_1 : whose (λ i. 100) (λ i. 0) wrapped ≡ 1
unfolding whose early lead lead_behind kept_lead asked asks clock step around
by_stream_1 = refl

-- at exactly the spacing it is in time
pub in_time : soon (λ i. 48) (λ i. 0) wrapped ≡ 0
unfolding soon early lead lead_behind kept_lead asked asks clock step around
in_time = refl

-- with a jitter of 52 bp it may come 52 bp before T is over, and it is kept that the next one may not
pub in_time_by_jitter : soon (λ i. 100) (λ i. 52) wrapped ≡ 0
unfolding soon early lead lead_behind kept_lead asked asks clock step around
in_time_by_jitter = refl

pub all_of_it_used : lead (λ i. 100) (λ i. 52) wrapped 1 ≡ 52
unfolding lead lead_behind kept_lead asked asks clock step around
all_of_it_used = refl

-- T 100 and J 30: requests at 0, 80 and 170 can be due at 0, 100 and 200, the last just 30 bp ahead of when it came
pub two_of_them_early : soon (λ i. 100) (λ i. 30) (asks_at 1 170 ∷ asks_at 1 80 ∷ asks_at 1 0 ∷ []) ≡ 0
unfolding soon early lead lead_behind kept_lead asked asks clock step around
two_of_them_early = refl

-- 70 bp, T less J, from each to the next are not enough: the third is due 60 bp ahead
abbrev hurried : List Event
hurried = asks_at 1 140 ∷ asks_at 1 70 ∷ asks_at 1 0 ∷ []

pub third_too_soon : soon (λ i. 100) (λ i. 30) hurried ≡ 1
unfolding soon early lead lead_behind kept_lead asked asks clock step around
third_too_soon = refl

-- it begins anew: another 70 bp behind it is in time
pub one_of_four : soon (λ i. 100) (λ i. 30) (asks_at 1 210 ∷ hurried) ≡ 1
unfolding soon early lead lead_behind kept_lead asked asks clock step around
one_of_four = refl

-- a request of stream 2 that is open for 1,000 bp at stream 1's record
abbrev long_open : List Event
long_open = asks_at 1 1500 ∷ asks_at 2 500 ∷ []

pub open_beyond : beyond 999 long_open 2 ≡ true
unfolding beyond left asks answers asked clock step around
open_beyond = refl

pub open_within : beyond 1000 long_open 2 ≡ false
unfolding beyond left asks answers asked clock step around
open_within = refl

-- records that do not stand in order of time
pub broken_by_a_step_back : broken (asks_at 1 499 ∷ asks_at 2 500 ∷ []) ≡ true
unfolding broken far around
broken_by_a_step_back = refl

pub whole_over_the_wrap : broken wrapped ≡ false
unfolding broken far around
whole_over_the_wrap = refl

-- the first capture in time: the counter showed fffffff0 at instant 0
pub timed_over_the_wrap : Timed 0xfffffff0 wrapped 0 48
unfolding stamp_at
timed_over_the_wrap =
    let answered : Timed 0xfffffff0 (answers_at 1 0x10 ∷ asks_at 1 0xfffffff0 ∷ []) 0 32 = next {u = 32} (one {t = 0} refl) (omega arith) (omega arith) refl in
    next {u = 48} answered (omega arith) (omega arith) refl
