-- Bound's argument to its end: what a request is allowed when it arrives, and so the bound in every run. Assumes nothing.
use Prim.Native.Nat.{ℕ, ◌+◌, ◌≤◌, ◌<◌}
use mathlib.Core.Path.{◌≡◌, refl, sym}
use mathlib.Core.Logic.{◌≢◌}
use mathlib.Core.List.{List, [], ◌∷◌, ◌++◌, Memᴰ}
use native.Mathlib.Nat.{mul-le-mul_right}
use native.Mathlib.Decide.{ℕ_discrete}
use native.Mathlib.Omega.{arith}
use Rattle.units.specs.Units.{bp}
use Rattle.pnet_rules.specs.Segment.{Segment, turn_by, bound_by}
use Rattle.pnet_run.specs.Run.{Belongs, Request, request, Answer, Queues, join, Token, Settled, Run, start, complete, arrive, move, travel, work, serve, skip}
use Rattle.pnet_run.specs.Promise.{Apart, Answered}
use Rattle.pnet_run.proofs.Charges.{Covers, free}
use Rattle.pnet_run.proofs.Counts.{spent, under_way}
use Rattle.pnet_run.proofs.Keeping.{put_same, put_other}
use Rattle.pnet_run.proofs.Queues.{owned, queue_came, queue_past}
use Rattle.pnet_run.proofs.Answering.{NotLate, answered_in_time}
use Rattle.pnet_run.proofs.Waiting.{none, absent_if, in_time_snoc, room_for}
use Rattle.pnet_run.proofs.Bound.{
  apart_latest,
  apart_before,
  spent_free,
  under_way_free,
  Room,
  Roomy,
  Queue,
  Inv,
  inv_travel,
  inv_work,
  inv_skip,
  inv_serve,
  inv_complete,
  toll_most,
  waits,
}

module _ (S : Segment) (h x : ℕ → ℕ) (k : ℕ) (1≤k : 1 ≤ k) (k≤n : k ≤ S.masters) where
  module _ (cover : Covers h x S) where
    -- where k finds room, the request will be answered in time
    inv_arrive : {t m i : ℕ} {y : Token} {q : Queues} {went : List Answer} → Inv S h x k 1≤k k≤n t y q went → (m ≡ k → Room S k i q) → Inv S h x k 1≤k k≤n t y (join q m (request i t)) went
    unfolding bound_by
    inv_arrive {t} {m} {i} {y} {q} {went} I room = record { token = I.token; queue = queue' (ℕ_discrete m k) }
      where
        r : Request
        r = request i t

        queue' : Dec (m ≡ k) → Queue S h x k 1≤k k≤n t y (join q m r k) went
        queue' (yes e) =
            rw (e, put_same q k (q k ++ (r ∷ [])))
            (in_time_snoc r (room e).0 (omega (arith, toll_most S h x k 1≤k k≤n cover y I.token, mul-le-mul_right (turn_by h S) (room e).1)) I.queue)
        queue' (no e) = rw (put_other q m (q m ++ (r ∷ [])) k (λ z. e (sym z))) I.queue

    -- ---- Every run with room

    inv : {t : ℕ} {y : Token} {q : Queues} {came : List Request} {went : List Answer} (z : Run S t y q came went) → Roomy S k z → Inv S h x k 1≤k k≤n t y q went
    unfolding Roomy
    inv (start a b c) s = record { token = omega arith; queue = none }
    inv (complete {m = m} {r = r} z p) s = inv_complete S h x k 1≤k k≤n cover (inv z s) p (owned z m r (rw p (Memᴰ.head refl))) (queue_past z k) (omega arith)
    inv (arrive z o d) s = inv_arrive (inv z s.1) s.0
    inv (move _ _ never) s = elim never [ ]
    inv (travel e z) s = inv_travel S h x k 1≤k k≤n cover e (inv z s)
    inv (work e z) s = inv_work S h x k 1≤k k≤n cover e (inv z s)
    inv (serve {m = m} {r = r} e u v z p a b c d f g) s = inv_serve S h x k 1≤k k≤n cover e (inv z s) (owned z m r (rw p (Memᴰ.head refl))) (omega arith)
    inv (skip e z p a b) s = inv_skip S h x k 1≤k k≤n cover e (inv z s) p (omega arith)

-- ---- The bound

module _ (S : Segment) (h : ℕ → ℕ) (k : ℕ) (1≤k : 1 ≤ k) (k≤n : k ≤ S.masters) (cover : Covers h free S)
    (least : ℕ → ℕ) (fits : (i : ℕ) → Belongs S k i → bound_by h S k ≤ least i) where
  abbrev KeptApart : List Request → Type 0
  KeptApart came = (i : ℕ) → Belongs S k i → Apart (least i) i came

  -- what holds with no surcharge
  plain : {t : ℕ} {y : Token} {q : Queues} {came : List Request} {went : List Answer} (z : Run S t y q came went) → Roomy S k z → Inv S h free k 1≤k k≤n t y q went
  plain z s = inv S h free k 1≤k k≤n cover z s

  not_late : {t : ℕ} {y : Token} {q : Queues} {came : List Request} {went : List Answer} (z : Run S t y q came went) → Roomy S k z
      → (r : Request) → Memᴰ r (q k) → NotLate (bound_by h S k) r.since t y
  not_late {y = y} {went = went} z s r j =
      let long : 40 < h k = omega (arith, cover.used k r.of (owned z k r j)) in
      let w = waits S h free k 1≤k k≤n cover long (plain z s) r j in
      let none : under_way free y + spent free S r.since went ≡ 0 = omega (arith, under_way_free y, spent_free S r.since went) in
      record { by_then = omega (arith, w.by_then); before = λ o. omega (arith, w.before o) }

  -- nothing of stream i waits when its next request arrives, so there is room
  alone : {t i : ℕ} {y : Token} {q : Queues} {came : List Request} {went : List Answer} (z : Run S t y q came went) → Roomy S k z → Settled y
      → Belongs S k i → KeptApart (request i t ∷ came) → (r : Request) → Memᴰ r (q k) → i ≢ r.of
  alone {i = i} z s o d apart r j e =
      omega (arith, fits i d, (not_late z s r j).before o, apart_latest (apart i d) refl r.since (rw e (queue_came z k r j)))

  room : {t i : ℕ} {y : Token} {q : Queues} {came : List Request} {went : List Answer} (z : Run S t y q came went) → Roomy S k z → Settled y
      → Belongs S k i → KeptApart (request i t ∷ came) → Room S k i q
  room {i = i} {q = q} z s o d apart =
      let f = alone z s o d apart in
      (absent_if i (q k) f, room_for S k i d (plain z s).queue (owned z k) f)

  roomy : {t : ℕ} {y : Token} {q : Queues} {came : List Request} {went : List Answer} (z : Run S t y q came went) → KeptApart came → Roomy S k z
  unfolding Roomy
  roomy (start a b c) apart = tt
  roomy (complete z p) apart = roomy z apart
  roomy (arrive z o d) apart = let s = roomy z (λ j e. apart_before (apart j e)) in (λ e. room z s o (rw e at d) apart, s)
  roomy (move _ _ never) apart = elim never [ ]
  roomy (travel e z) apart = roomy z apart
  roomy (work e z) apart = roomy z apart
  roomy (serve e u v z p a b c d f g) apart = roomy z apart
  roomy (skip e z p a b) apart = roomy z apart

  pub waits_in_time : {t : ℕ} {y : Token} {q : Queues} {came : List Request} {went : List Answer} → Run S t y q came went → KeptApart came
      → (r : Request) → Memᴰ r (q k) → NotLate (bound_by h S k) r.since t y
  waits_in_time z apart = not_late z (roomy z apart)

  pub answered_by : {t : ℕ} {y : Token} {q : Queues} {came : List Request} {went : List Answer}
      → Run S t y q came went → KeptApart came → Answered (bp (bound_by h S k)) S k t y came went
  answered_by = answered_in_time S k (bound_by h S k) KeptApart (λ r came apart i d. apart_before (apart i d)) (λ t y q came went. waits_in_time)

  -- ---- The bound by another charge, with a surcharge for each used visit

  pub credit_by : (g x : ℕ → ℕ) → Covers g x S → 40 < g k
      → {t : ℕ} {y : Token} {q : Queues} {came : List Request} {went : List Answer} → Run S t y q came went → KeptApart came → (r : Request) → Memᴰ r (q k)
      → NotLate (bound_by g S k + (under_way x y + spent x S r.since went)) r.since t y
  credit_by g x c long z apart r j = waits S g x k 1≤k k≤n c long (inv S g x k 1≤k k≤n c z (roomy z apart)) r j
