-- The refined figure on page 01's third sheet, step by step: W of master 1 is 760 bp. A run in which every master keeps its spacing takes 760 bp (TwoMastersReach); one in
-- which master 2 asks oftener than declared takes 1,000. So on this sheet W is no larger than it must be, and it needs the spacing of
-- every master, not of master 1 alone. The sheet names no edition, so edition 1 holds. Assumes nothing.
use Prim.Native.Nat.{ℕ, ◌+◌, ◌≤◌}
use mathlib.Core.Path.{◌≡◌, refl, ap}
use mathlib.Core.Logic.{◌≢◌, ⊎_elim}
use mathlib.Core.Bool.{false}
use mathlib.Core.List.Memᴰ
use mathlib.Core.List.{List, [], ◌∷◌, Memᴰ}
use native.Mathlib.Omega.{arith}
use Rattle.sheet_record.specs.declared.Record.{Record}
use Rattle.sheet_record.specs.Kinds.{is_stream_of, in_range}
use Rattle.units.specs.Units.{bp}
use Rattle.pnet_rules.specs.Segment.{Segment, stream_of, segment_of, owns, late}
use Rattle.pnet_rules.specs.Refined.{refined}
use Rattle.pnet_rules.specs.Limits.{Ranged, Declared}
use Rattle.pnet_rules.proofs.Declares.{stream_ranged}
use Rattle.pnet_run.specs.Run.{Belongs, Request, request, Answer, answer, Queues, put, Token, toward, on_way, next, Run, start, arrive, travel, skip}
use Rattle.pnet_run.specs.Promise.{none, and, Spaced, Answered, Accepted}
use Rattle.pnet_run.proofs.Few.{each, limits, declared_if_few}
use Rattle.pnet_run.proofs.Picked.{picked}
use Rattle.pnet_run.proofs.Spacing.{apart_spaced}
use Rattle.pnet_run.proofs.Slowest.{slowest, asked, queues_to, asked_to, all_asked}
use Rattle.pnet_run.proofs.Demand.{accepted_if_none_is_late}

-- ---- The sheet

-- C is 203, T and D 100,000
abbrev stream : ℕ → Record
stream m = record { kind = 2; a = m; b = 203; c = 100000; d = 100000; e = 0 }

-- two masters: streams 1 and 2 are master 1's, stream 3 master 2's
abbrev pub two : Segment
two = segment_of (record { head = record { kind = 1; a = 2; b = 0; c = 0; d = 0; e = 0 }; settings = []; streams = stream 1 ∷ stream 1 ∷ stream 2 ∷ [] })

pub refined_is_760 : refined two 1 ≡ 760
unfolding segment_of refined
refined_is_760 = refl

first_in_range : Ranged 2 (stream_of (stream 1))
unfolding is_stream_of in_range
first_in_range = stream_ranged (limits 2) (stream 1) refl refl

second_in_range : Ranged 2 (stream_of (stream 2))
unfolding is_stream_of in_range
second_in_range = stream_ranged (limits 2) (stream 2) refl refl

declared : Declared two
unfolding segment_of
declared = declared_if_few two (omega arith) (omega arith) (omega arith) (omega arith) (each (λ i. Ranged 2 (two.stream i)) first_in_range first_in_range second_in_range)

pub two_is_accepted : Accepted two
unfolding segment_of late
two_is_accepted = accepted_if_none_is_late two declared (each (λ i. late two i ≡ false) refl refl refl)

stream_1 : Belongs two 1 1
unfolding segment_of
stream_1 = record { from_one = omega arith; to_last = omega arith; own = refl }

pub stream_2 : Belongs two 1 2
unfolding segment_of
stream_2 = record { from_one = omega arith; to_last = omega arith; own = refl }

stream_3 : Belongs two 2 3
unfolding segment_of
stream_3 = record { from_one = omega arith; to_last = omega arith; own = refl }

-- ---- Every stream asks once

-- the token is 40 bp away from master 2 when all ask; then every reaction is 7 bp and every message 203. Master 2 has nothing left
-- to send when the token comes for the second time
pub once : (q : Queues) × (went : List Answer) × Run two 760 (toward 2 40) q (asked_to 3) (answer (asked 2) 760 ∷ went)
unfolding segment_of put next picked owns asked_to
once =
    let asking : Run two 0 (toward 2 40) (queues_to two 3) (asked_to 3) [] = all_asked two (omega arith) (omega arith) (omega arith) in
    let at-250 : Run two 250 (toward 1 40) _ (asked_to 3) _ = slowest (travel {d = 0} 40 asking) refl (omega arith) in
    let at-500 : Run two 500 (toward 2 40) _ (asked_to 3) _ = slowest (travel {d = 0} 40 at-250) refl (omega arith) in
    let at-550 : Run two 550 (toward 1 0) _ (asked_to 3) _ = skip {d = 0} 10 (travel {d = 0} 40 at-500) refl (omega arith) refl in
    (_, _, slowest at-550 refl (omega arith))

-- ---- Master 2 asks twice at once

-- all ask at 0: stream 3 twice, then streams 1 and 2
abbrev pub came : List Request
came = request 2 0 ∷ request 1 0 ∷ request 3 0 ∷ request 3 0 ∷ []

-- master 2 uses its visit before each of master 1's two
abbrev pub went : List Answer
went = answer (request 2 0) 1000 ∷ answer (request 3 0) 750 ∷ answer (request 1 0) 500 ∷ answer (request 3 0) 250 ∷ []

pub twice : (q : Queues) × Run two 1000 (toward 2 40) q came went
unfolding segment_of put next
twice =
    let from : Run two 0 (toward 2 40) (λ y. []) [] [] = start {m = 2} {d = 40} (omega arith) (omega arith) (omega arith) in
    let asking : Run two 0 (toward 2 40) _ came [] = arrive (arrive (arrive (arrive from on_way stream_3) on_way stream_3) on_way stream_1) on_way stream_2 in
    let at-250 : Run two 250 (toward 1 40) _ came _ = slowest (travel {d = 0} 40 asking) refl (omega arith) in
    let at-500 : Run two 500 (toward 2 40) _ came _ = slowest (travel {d = 0} 40 at-250) refl (omega arith) in
    let at-750 : Run two 750 (toward 1 40) _ came _ = slowest (travel {d = 0} 40 at-500) refl (omega arith) in
    (_, slowest (travel {d = 0} 40 at-750) refl (omega arith))

-- ---- Master 1 keeps its spacing

-- a request of another stream than the first is behind it
behind : {i a j : ℕ} {l : List Request} → Memᴰ (request i a) (request j 0 ∷ l) → i ≢ j → Memᴰ (request i a) l
behind {i} {a} {j} {l} m n =
    ⊎_elim (λ (e : request i a ≡ request j 0). absurd (n (ap (λ (r : Request). r.of) e))) (λ (c : Memᴰ (request i a) l). c) (Memᴰ.cases_cons m)

-- each of its streams asks once, and stream 3 is not its own
pub master_1_keeps_its_spacing : Spaced two 1 came
master_1_keeps_its_spacing =
    apart_spaced {S = two}
    (λ i b.
    and (λ e a j. absurd (second e a j)) (and (λ e a j. absurd (first e a j)) (and (λ e a j. absurd (other b e)) (and (λ e a j. absurd (Memᴰ.not-nil j)) none))))
  where
    first : {i : ℕ} → 1 ≡ i → (a : ℕ) → Memᴰ (request i a) (request 3 0 ∷ request 3 0 ∷ []) → ⊥
    first e a j = Memᴰ.not-nil (behind (behind j (λ z. omega arith)) (λ z. omega arith))

    second : {i : ℕ} → 2 ≡ i → (a : ℕ) → Memᴰ (request i a) (request 1 0 ∷ request 3 0 ∷ request 3 0 ∷ []) → ⊥
    second e a j = Memᴰ.not-nil (behind (behind (behind j (λ z. omega arith)) (λ z. omega arith)) (λ z. omega arith))

    other : {i : ℕ} → Belongs two 1 i → 3 ≡ i → ⊥
    other b e = omega (arith, ap (λ (x : ℕ). (two.stream x).master) e, stream_3.own, b.own)

-- ---- The refined figure is not safe where master 1 alone keeps its spacing

pub not_without_the_others :
    ((t : ℕ) (y : Token) (q : Queues) (came : List Request) (went : List Answer) → Run two t y q came went → Spaced two 1 came
    → Answered (bp (refined two 1)) two 1 t y came went)
    → ⊥
not_without_the_others safe =
    let answered = safe 1000 (toward 2 40) twice.0 came went twice.1 master_1_keeps_its_spacing in
    let l : 1000 ≤ 0 + refined two 1 = answered.in_time (answer (request 2 0) 1000) (Memᴰ.head refl) stream_2 in
    omega (arith, refined_is_760)
