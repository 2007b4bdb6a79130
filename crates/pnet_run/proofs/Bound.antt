-- The bound holds in every run, however often the other masters ask: for any charge that covers the longest visit to each master,
-- and for arrivals so far apart that the bound by that charge fits between them. In such runs it also holds for a charge with a
-- surcharge, if the surcharges of the visits that ended with an answer since the request came are added. Assumes nothing.
--
-- The argument. Let `toll` be the longest time, as the token stands, until k has answered its next request and passed the token
-- on, if each visit to come takes no more than its charge. While time passes the toll falls at least as fast, but where a service
-- begins it may grow, by the surcharge of that visit at most; and at a completion by k it grows by one turn of the token. What a
-- waiting request is allowed grows with the toll: a surcharge is under way until the completion, and spent from then on. So if the first
-- request in k's queue is through by now + toll, the next one turn later, and so on, each within what it is allowed, all stays
-- true. When a request of k arrives, its stream has none waiting, since that one would have been answered: so it finds fewer than
-- s in the queue, and is through within s turns. That one would have been answered is shown without a surcharge, by a charge that
-- covers every visit; once each arrival is known to find room, any other charge and surcharge may be counted with. From the arrival
-- on, it is in EveryRun.
use Prim.Native.Nat.{ℕ, suc, ◌+◌, ◌≤◌, ◌<◌}
use mathlib.Core.Path.{◌≡◌, refl, sym}
use mathlib.Core.Bool.{Bool, true, false}
use mathlib.Core.List.{List, [], ◌∷◌, Memᴰ}
use native.Mathlib.Decide.{ℕ_discrete}
use native.Mathlib.Omega.{arith}
use lib.Dec.{leb}
use lib.ListN.{length}
use borrow.Author.Tests.{le-leb}
use Rattle.common.specs.Sums.{when}
use Rattle.pnet_rules.specs.Segment.{Segment, turn_by, bound_by, count}
use Rattle.pnet_run.specs.Run.{Belongs, Request, request, Answer, answer, Queues, put, Token, toward, serving, Settled, on_way, at_work, next, Run, start, complete, arrive, move, travel, work, serve, skip}
use Rattle.pnet_run.specs.Promise.{Apart, and}
use Rattle.pnet_run.proofs.Charges.{Covers, free}
use Rattle.pnet_run.proofs.Counts.{spent, under_way}
use Rattle.pnet_run.proofs.Keeping.{put_same, put_other}
use Rattle.pnet_run.proofs.Answering.{NotLate}
use Rattle.pnet_run.proofs.Ring.{next_in_ring, gap, gap_next, gap_lap, gap_most, gap_least}
use Rattle.pnet_run.proofs.Waiting.{InTime, none, Absent, in_time_by, in_time_sooner, in_time_rest, in_time_each}

-- arrivals that are apart: the latest from those before it, and those before it
pub apart_latest : {d i : ℕ} {r : Request} {came : List Request} → Apart d i (r ∷ came) → r.of ≡ i → (a : ℕ) → Memᴰ (request i a) came → a + d ≤ r.since
apart_latest (and f p) e a j = omega (arith, f e a j)

pub apart_before : {d i : ℕ} {r : Request} {came : List Request} → Apart d i (r ∷ came) → Apart d i came
apart_before (and f p) = p

-- ---- What is spent

-- an answer of master m's that is given now counts for all that came by now
spent_now : (x : ℕ → ℕ) {S : Segment} {m t a : ℕ} (r : Request) (went : List Answer) → Belongs S m r.of → a ≤ t
    → spent x S a (answer r t ∷ went) ≡ x m + spent x S a went
unfolding spent
spent_now x {t = t} {a = a} r went own l = rw (le-leb a t l, own.own)

-- without a surcharge, nothing
pub spent_free : (S : Segment) (a : ℕ) (went : List Answer) → spent free S a went ≡ 0
unfolding spent
spent_free S a [] = refl
spent_free S a (w ∷ went) = go (leb a w.at) (spent_free S a went)
  where
    go : (b : Bool) → spent free S a went ≡ 0 → when b 0 + spent free S a went ≡ 0
    go true e = omega arith
    go false e = omega arith

pub under_way_free : (y : Token) → under_way free y ≡ 0
under_way_free (toward m d) = refl
under_way_free (serving m c) = refl

-- ---- Room at each arrival

module _ (S : Segment) (k : ℕ) where
  -- none of stream i waits, and fewer wait than k has streams
  abbrev pub Room : ℕ → Queues → Type 0
  Room i q = Absent i (q k) × (suc (length (q k)) ≤ count S k)

  -- each request of k found room when it arrived
  unfoldable pub Roomy : {t : ℕ} {y : Token} {q : Queues} {came : List Request} {went : List Answer} → Run S t y q came went → Type 0
  Roomy (start a b c) = Unit {0}
  Roomy (complete z p) = Roomy z
  Roomy (arrive {m = m} {i = i} {q = q} z o d) = (m ≡ k → Room i q) × Roomy z
  Roomy (move _ _ never) = elim never [ ]
  Roomy (travel e z) = Roomy z
  Roomy (work e z) = Roomy z
  Roomy (serve e u v z p a b c d f g) = Roomy z
  Roomy (skip e z p a b) = Roomy z

-- ---- A charge h and a surcharge x

module _ (S : Segment) (h x : ℕ → ℕ) (k : ℕ) (1≤k : 1 ≤ k) (k≤n : k ≤ S.masters) where
  abbrev pub to_go : ℕ → ℕ
  to_go m = gap h S.masters k m

  -- the longest time until k has answered its next request and passed the token on, if no further surcharge is spent
  abbrev pub toll : Token → ℕ
  toll (toward m d) = d + (h m + to_go m)
  toll (serving m c) = c + (40 + to_go m)

  abbrev pub Sane : Token → Type 0
  Sane (toward m d) = (1 ≤ m) × (m ≤ S.masters) × (d ≤ 40)
  Sane (serving m c) = (1 ≤ m) × (m ≤ S.masters) × (c + 40 ≤ h m + x m)

  -- what a request that came at the instant a is allowed, its token pass included
  abbrev allowed : Token → List Answer → ℕ → ℕ
  allowed y went a = bound_by h S k + 40 + (under_way x y + spent x S a went)

  abbrev pub Queue : ℕ → Token → List Request → List Answer → Type 0
  Queue t y l went = InTime (turn_by h S) (allowed y went) (t + toll y) l

  -- what holds of master k at every stage of a run
  pub record Inv (t : ℕ) (y : Token) (q : Queues) (went : List Answer) : Type 0 where
    pub token : Sane y
    pub queue : Queue t y (q k) went

  pub next_in : {m : ℕ} → m ≤ S.masters → (1 ≤ next S.masters m) × (next S.masters m ≤ S.masters)
  next_in {m} l = next_in_ring S.masters m (omega arith) l

  module _ (cover : Covers h x S) where
    -- ---- Time passes

    pub inv_travel : {t m d : ℕ} {q : Queues} {went : List Answer} (e : ℕ) → Inv t (toward m (e + d)) q went → Inv (t + e) (toward m d) q went
    inv_travel e i = record { token = omega arith; queue = in_time_sooner (omega arith) i.queue }

    pub inv_work : {t m c : ℕ} {q : Queues} {went : List Answer} (e : ℕ) → Inv t (serving m (e + c)) q went → Inv (t + e) (serving m c) q went
    inv_work e i = record { token = omega arith; queue = in_time_sooner (omega arith) i.queue }

    pub inv_skip : {t m d : ℕ} {q : Queues} {went : List Answer} (e : ℕ) → Inv t (toward m 0) q went → q m ≡ [] → e + d ≤ 10
        → Inv (t + e) (toward (next S.masters m) d) q went
    inv_skip {t} {m} {d} {q} {went} e i p s = record { token = omega (arith, next_in i.token.1); queue = queue' (ℕ_discrete m k) }
      where
        queue' : Dec (m ≡ k) → Queue (t + e) (toward (next S.masters m) d) (q k) went
        queue' (yes z) = rw (← z, p) none
        queue' (no z) = in_time_sooner (omega (arith, gap_next h S.masters k 1≤k k≤n m i.token.1 z, cover.unused m i.token.0 i.token.1)) i.queue

    -- here the toll may grow, and what is allowed grows with it
    pub inv_serve : {t m c i : ℕ} {q : Queues} {went : List Answer} (e : ℕ)
        → Inv t (toward m 0) q went → Belongs S m i → e + c ≤ 7 + (S.stream i).cycle → Inv (t + e) (serving m c) q went
    inv_serve {m = m} {i = i} e I own s =
        let most = cover.used m i own in
        record {
          token = (I.token.0, I.token.1, omega arith);
          queue = in_time_by (x m) (λ p j. omega arith) (omega arith) I.queue;
        }

    -- ---- A completion

    -- what was under way is spent, for all that wait
    pub inv_complete : {t m d : ℕ} {q : Queues} {r : Request} {rest : List Request} {went : List Answer} → Inv t (serving m 0) q went → q m ≡ r ∷ rest
        → Belongs S m r.of → ((p : Request) → Memᴰ p (q k) → p.since ≤ t) → d ≤ 40
        → Inv t (toward (next S.masters m) d) (put q m rest) (answer r t ∷ went)
    unfolding turn_by
    inv_complete {t} {m} {d} {q} {r} {rest} {went} i p own before b = record { token = omega (arith, next_in i.token.1); queue = queue' (ℕ_discrete m k) }
      where
        paid : Queue t (serving m 0) (q k) went → InTime (turn_by h S) (allowed (toward m 0) (answer r t ∷ went)) (t + toll (serving m 0)) (q k)
        paid g = in_time_by 0 (λ s j. omega (arith, spent_now x r went own (before s j))) (omega arith) g

        queue' : Dec (m ≡ k) → Queue t (toward (next S.masters m) d) (put q m rest k) (answer r t ∷ went)
        queue' (yes e) =
            let here : q k ≡ r ∷ rest = rw (← e) p in
            rw (e, put_same q k rest) (in_time_sooner (omega (arith, gap_lap h S.masters k 1≤k k≤n)) (in_time_rest (rw (here, e) at (paid i.queue))))
        queue' (no e) =
            rw (put_other q m rest k (λ z. e (sym z))) (in_time_sooner (omega (arith, gap_next h S.masters k 1≤k k≤n m i.token.1 e)) (paid i.queue))

    -- ---- An arrival

    pub toll_most : (y : Token) → Sane y → toll y ≤ turn_by h S + 40 + under_way x y
    unfolding turn_by
    toll_most (toward m d) o = omega (arith, gap_most h S.masters k 1≤k k≤n m o.0 o.1)
    toll_most (serving m c) o = omega (arith, gap_most h S.masters k 1≤k k≤n m o.0 o.1)

    -- ---- What waits is not late

    pub toll_some : (y : Token) → Sane y → 40 < h k → 40 ≤ toll y
    toll_some (toward m d) o b = omega (arith, gap_least h S.masters k 1≤k k≤n m o.1)
    toll_some (serving m c) o b = omega arith

    pub toll_settled : {y : Token} → Sane y → Settled y → 40 < h k → 40 < toll y
    toll_settled o (on_way {m = m}) b = omega (arith, gap_least h S.masters k 1≤k k≤n m o.1)
    toll_settled o at_work b = omega arith

    pub waits : {t : ℕ} {y : Token} {q : Queues} {went : List Answer} → 40 < h k → Inv t y q went → (r : Request) → Memᴰ r (q k)
        → NotLate (bound_by h S k + (under_way x y + spent x S r.since went)) r.since t y
    waits {y = y} b I r j =
        let g = in_time_each I.queue j in
        record { by_then = omega (arith, toll_some y I.token b); before = λ s. omega (arith, toll_settled I.token s b) }
