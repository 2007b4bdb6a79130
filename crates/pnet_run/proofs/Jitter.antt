-- Page 02, Ask 7, on two sheets, step by step. On the first the count of the refined figure needs its J: every master keeps its spacing, and a
-- request of master 1 takes 596 bp, which is W; with the count without J the figure would be 356. On the second, two requests of one stream
-- lie within J behind one and the same nominal time, and the second takes 95 bp where the bound is 48: so each needs a nominal time of
-- its own. The sheets name no edition, so edition 1 holds. Assumes nothing.
use Prim.Native.Nat.{ℕ, ◌+◌, ◌≤◌}
use mathlib.Core.Path.{◌≡◌, refl}
use mathlib.Core.Bool.{false}
use mathlib.Core.Logic.{◌⊎◌, inr, ⊎_elim}
use mathlib.Core.List.Memᴰ
use mathlib.Core.List.{List, [], ◌∷◌, Memᴰ}
use native.Mathlib.Omega.{arith}
use Rattle.sheet_record.specs.declared.Record.{Record}
use Rattle.sheet_record.specs.Kinds.{is_stream_of, in_range}
use Rattle.sheet_rules.specs.Sheets.{Sheet}
use Rattle.units.specs.Units.{bp}
use Rattle.pnet_rules.specs.Segment.{Segment, stream_of, segment_of, bound, late}
use Rattle.pnet_rules.specs.Refined.{refined}
use Rattle.pnet_rules.specs.Limits.{Ranged, Declared}
use Rattle.pnet_rules.proofs.Declares.{stream_ranged}
use Rattle.pnet_run.specs.Run.{Belongs, Request, request, Answer, answer, Queues, put, Token, toward, on_way, next, Run, start, arrive, travel}
use Rattle.pnet_run.specs.Promise.{Kept, quiet, other, asks, Spaced, Answered, Reached, Accepted}
use Rattle.pnet_run.proofs.Few.{each, alone, limits, declared_if_few}
use Rattle.pnet_run.proofs.Slowest.{slowest}
use Rattle.pnet_run.proofs.Demand.{accepted_if_none_is_late, each_request_is_answered_within_the_bound}

-- ---- A sheet on which J counts

-- streams 1 and 2 are master 1's: C is 1, T and D 596
abbrev short : Record
short = record { kind = 2; a = 1; b = 1; c = 596; d = 596; e = 0 }

-- stream 3 is master 2's: C is 203, T 654, D 298, and J as given
abbrev jittery : ℕ → Record
jittery J = record { kind = 7; a = 2; b = 203; c = 654; d = 298; e = J }

abbrev pub pair : ℕ → Segment
pair J = segment_of (record { head = record { kind = 1; a = 2; b = 0; c = 0; d = 0; e = 0 }; settings = []; streams = short ∷ short ∷ jittery J ∷ [] })

-- J is 356: as late as D leaves room for
abbrev pub late_pair : Segment
late_pair = pair 356

-- the sheets differ in J alone
pub with_J_it_is_596 : refined late_pair 1 ≡ 596
unfolding segment_of refined
with_J_it_is_596 = refl

pub without_J_it_is_356 : refined (pair 0) 1 ≡ 356
unfolding segment_of refined
without_J_it_is_356 = refl

short_in_range : Ranged 2 (stream_of short)
unfolding is_stream_of in_range
short_in_range = stream_ranged (limits 2) short refl refl

jittery_in_range : Ranged 2 (stream_of (jittery 356))
unfolding is_stream_of in_range
jittery_in_range = stream_ranged (limits 2) (jittery 356) refl refl

late_pair_declared : Declared late_pair
unfolding segment_of
late_pair_declared =
    declared_if_few late_pair (omega arith) (omega arith) (omega arith) (omega arith)
    (each (λ i. Ranged 2 (late_pair.stream i)) short_in_range short_in_range jittery_in_range)

pub late_pair_is_accepted : Accepted late_pair
unfolding segment_of late
late_pair_is_accepted = accepted_if_none_is_late late_pair late_pair_declared (each (λ i. late late_pair i ≡ false) refl refl refl)

stream_1 : Belongs late_pair 1 1
unfolding segment_of
stream_1 = record { from_one = omega arith; to_last = omega arith; own = refl }

stream_2 : Belongs late_pair 1 2
unfolding segment_of
stream_2 = record { from_one = omega arith; to_last = omega arith; own = refl }

stream_3 : Belongs late_pair 2 3
unfolding segment_of
stream_3 = record { from_one = omega arith; to_last = omega arith; own = refl }

-- ---- Master 2 asks twice within W

-- all ask at 0, stream 3 being 356 bp late; and stream 3 again at 298, on time
abbrev pub late_came : List Request
late_came = request 3 298 ∷ request 2 0 ∷ request 1 0 ∷ request 3 0 ∷ []

-- master 2 uses its visit before each of master 1's two
abbrev pub late_went : List Answer
late_went = answer (request 2 0) 596 ∷ answer (request 3 298) 548 ∷ answer (request 1 0) 298 ∷ answer (request 3 0) 250 ∷ []

-- the token is 40 bp away from master 2 at 0; every reaction is 7 bp, every message as long as declared
late_run : (q : Queues) × Run late_pair 596 (toward 2 40) q late_came late_went
unfolding segment_of put next
late_run =
    let from : Run late_pair 0 (toward 2 40) (λ y. []) [] [] = start {m = 2} {d = 40} (omega arith) (omega arith) (omega arith) in
    let asking : Run late_pair 0 (toward 2 40) _ _ [] = arrive (arrive (arrive from on_way stream_3) on_way stream_1) on_way stream_2 in
    let at-250 : Run late_pair 250 (toward 1 40) _ _ _ = slowest (travel {d = 0} 40 asking) refl (omega arith) in
    let at-298 : Run late_pair 298 (toward 2 40) _ _ _ = slowest (travel {d = 0} 40 at-250) refl (omega arith) in
    let again : Run late_pair 298 (toward 2 40) _ late_came _ = arrive at-298 on_way stream_3 in
    let at-548 : Run late_pair 548 (toward 1 40) _ late_came _ = slowest (travel {d = 0} 40 again) refl (omega arith) in
    (_, slowest (travel {d = 0} 40 at-548) refl (omega arith))

-- master 1's streams ask once each
stream_1_keeps : Kept 596 0 1 late_came (0 ∷ [])
stream_1_keeps =
    other {r = request 3 298} (λ e. omega arith)
    (other {r = request 2 0} (λ e. omega arith)
    (asks {r = request 1 0} 0 refl (omega arith) (omega arith) (λ v j. absurd (Memᴰ.not-nil j)) (other {r = request 3 0} (λ e. omega arith) quiet)))

stream_2_keeps : Kept 596 0 2 late_came (0 ∷ [])
stream_2_keeps =
    other {r = request 3 298} (λ e. omega arith)
    (asks {r = request 2 0} 0 refl (omega arith) (omega arith) (λ v j. absurd (Memᴰ.not-nil j))
    (other {r = request 1 0} (λ e. omega arith) (other {r = request 3 0} (λ e. omega arith) quiet)))

-- stream 3's nominal times are 356 bp before the run and 298: 654 apart. The instants 356 bp behind them are 0 and 654
stream_3_keeps : Kept 654 356 3 late_came (654 ∷ 0 ∷ [])
stream_3_keeps =
    asks {r = request 3 298} 654 refl (omega arith) (omega arith) far
    (other {r = request 2 0} (λ e. omega arith)
    (other {r = request 1 0} (λ e. omega arith)
    (asks {r = request 3 0} 0 refl (omega arith) (omega arith) (λ v j. absurd (Memᴰ.not-nil j)) quiet)))
  where
    far : (v : ℕ) → Memᴰ v (0 ∷ []) → (654 + 654 ≤ v) ⊎ (v + 654 ≤ 654)
    far v j = ⊎_elim (λ (e : v ≡ 0). inr (omega arith)) (λ (c : Memᴰ v []). absurd (Memᴰ.not-nil c)) (Memᴰ.cases_cons j)

pub every_master_keeps_its_spacing : (y : ℕ) → Spaced late_pair y late_came
unfolding segment_of
every_master_keeps_its_spacing y i b =
    each (λ n. (due : List ℕ) × Kept (late_pair.stream n).spacing (late_pair.stream n).jitter n late_came due) (0 ∷ [], stream_1_keeps) (0 ∷ [], stream_2_keeps)
    (654 ∷ 0 ∷ [], stream_3_keeps) i b.from_one b.to_last

-- W is taken, so it is no larger than it must be
pub some_run_takes_W : Reached (bp (refined late_pair 1)) late_pair 1
some_run_takes_W = record {
  now = 596;
  token = toward 2 40;
  queues = late_run.0;
  came = late_came;
  went = late_went;
  run = late_run.1;
  spaced = every_master_keeps_its_spacing;
  slow = request 2 0;
  arrived = Memᴰ.tail (Memᴰ.head refl);
  own = stream_2;
  exact = rw with_J_it_is_596 (Memᴰ.head refl);
}

-- and the figure of the same sheet without J is not safe, though every master keeps its spacing
pub not_with_the_count_without_J :
    ((t : ℕ) (y : Token) (q : Queues) (came : List Request) (went : List Answer) → Run late_pair t y q came went → ((k : ℕ) → Spaced late_pair k came)
    → Answered (bp (refined (pair 0) 1)) late_pair 1 t y came went)
    → ⊥
not_with_the_count_without_J safe =
    let answered = safe 596 (toward 2 40) late_run.0 late_came late_went late_run.1 every_master_keeps_its_spacing in
    let l : 596 ≤ 0 + refined (pair 0) 1 = answered.in_time (answer (request 2 0) 596) (Memᴰ.head refl) stream_2 in
    omega (arith, without_J_it_is_356)

-- ---- Two requests behind one nominal time

-- one master with one stream: C is 1, T 58, D 48, J 10
abbrev crowding : Record
crowding = record { kind = 7; a = 1; b = 1; c = 58; d = 48; e = 10 }

abbrev crowded_sheet : Sheet
crowded_sheet = record { head = record { kind = 1; a = 1; b = 0; c = 0; d = 0; e = 0 }; settings = []; streams = crowding ∷ [] }

abbrev pub crowded : Segment
crowded = segment_of crowded_sheet

crowding_in_range : Ranged 1 (stream_of crowding)
unfolding is_stream_of in_range
crowding_in_range = stream_ranged (limits 1) crowding refl refl

crowded_declared : Declared crowded
unfolding segment_of
crowded_declared = declared_if_few crowded (omega arith) (omega arith) (omega arith) (omega arith) (alone (λ i. Ranged 1 (crowded.stream i)) crowding_in_range)

pub crowded_is_accepted : Accepted crowded
unfolding segment_of late
crowded_is_accepted = accepted_if_none_is_late crowded crowded_declared (alone (λ i. late crowded i ≡ false) refl)

pub bound_is_48 : bound crowded 1 ≡ 48
unfolding segment_of bound
bound_is_48 = refl

only : Belongs crowded 1 1
unfolding segment_of
only = record { from_one = omega arith; to_last = omega arith; own = refl }

-- it asks at 0 and at 1; the second request waits for a whole turn behind the first
abbrev pub crowded_came : List Request
crowded_came = request 1 1 ∷ request 1 0 ∷ []

abbrev pub crowded_went : List Answer
crowded_went = answer (request 1 1) 96 ∷ answer (request 1 0) 48 ∷ []

crowded_run : (q : Queues) × Run crowded 96 (toward 1 40) q crowded_came crowded_went
unfolding segment_of put next
crowded_run =
    let from : Run crowded 0 (toward 1 40) (λ y. []) [] [] = start {m = 1} {d = 40} (omega arith) (omega arith) (omega arith) in
    let first : Run crowded 0 (toward 1 40) _ _ [] = arrive from on_way only in
    let second : Run crowded 1 (toward 1 39) _ crowded_came [] = arrive (travel {d = 39} 1 first) on_way only in
    let at-48 : Run crowded 48 (toward 1 40) _ crowded_came _ = slowest (travel {d = 0} 39 second) refl (omega arith) in
    (_, slowest (travel {d = 0} 40 at-48) refl (omega arith))

-- all requests are 0 to J behind the nominal time J before u
abbrev pub Behind : ℕ → ℕ → List Request → Type 0
Behind J u came = (r : Request) → Memᴰ r came → (r.since ≤ u) × (u ≤ r.since + J)

-- here it is the nominal time 0
both_behind_0 : Behind 10 10 crowded_came
both_behind_0 r j =
    ⊎_elim (λ (e : r ≡ request 1 1). rw e (omega arith))
    (λ (c : Memᴰ r (request 1 0 ∷ [])).
    ⊎_elim (λ (e : r ≡ request 1 0). rw e (omega arith)) (λ (d : Memᴰ r []). absurd (Memᴰ.not-nil d)) (Memᴰ.cases_cons c))
    (Memᴰ.cases_cons j)

-- so the bound is not safe where requests may share a nominal time: the second takes 95 bp
pub not_with_a_shared_nominal_time :
    ((t : ℕ) (y : Token) (q : Queues) (came : List Request) (went : List Answer) → Run crowded t y q came went
    → (u : ℕ) × Behind (crowded.stream 1).jitter u came
    → Answered (bp (bound crowded 1)) crowded 1 t y came went)
    → ⊥
unfolding segment_of
not_with_a_shared_nominal_time safe =
    let answered = safe 96 (toward 1 40) crowded_run.0 crowded_came crowded_went crowded_run.1 (10, both_behind_0) in
    let l : 96 ≤ 1 + bound crowded 1 = answered.in_time (answer (request 1 1) 96) (Memᴰ.head refl) only in
    omega (arith, bound_is_48)

-- nor does such a master keep its spacing, since the bound would hold
pub crowding_keeps_no_spacing : Spaced crowded 1 crowded_came → ⊥
crowding_keeps_no_spacing spaced =
    let answered = each_request_is_answered_within_the_bound crowded_sheet crowded_is_accepted 1 crowded_run.1 spaced in
    let l : 96 ≤ 1 + bound crowded 1 = answered.in_time (answer (request 1 1) 96) (Memᴰ.head refl) only in
    omega (arith, bound_is_48)
