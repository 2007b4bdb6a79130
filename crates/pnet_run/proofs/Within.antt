-- Refined's argument to its end: no response passes the refined figure. Assumes nothing.
use Prim.Native.Nat.{ℕ, ◌+◌, ◌-◌, ◌*◌, ◌≤◌, ◌<◌}
use mathlib.Core.Path.{◌≡◌, refl}
use mathlib.Core.Bool.{Bool, true, false, ◌&&◌}
use mathlib.Core.Logic.{⊎_elim}
use mathlib.Core.List.Memᴰ
use mathlib.Core.List.{List, ◌∷◌, Memᴰ}
use native.Mathlib.Nat.{le_refl, mul-le-mul, mul-le-mul_right}
use native.Mathlib.Omega.{arith}
use lib.Dec.{eqb, leb}
use borrow.Author.Tests.{eq-eqb, eqb-true, le-leb}
use Rattle.common.specs.Sums.{when, upto}
use Rattle.common.proofs.Sums.{upto_mono, upto_term}
use Rattle.units.specs.Units.{bp}
use Rattle.pnet_rules.specs.Segment.{Segment, count, turn_by, bound_by}
use Rattle.pnet_rules.specs.Refined.{right_by, asked_by}
use Rattle.pnet_rules.specs.Limits.{Ranged, Declared}
use Rattle.pnet_run.specs.Run.{
  Belongs,
  Request,
  request,
  Answer,
  answer,
  Queues,
  put,
  join,
  Token,
  toward,
  serving,
  on_way,
  next,
  Run,
  start,
  complete,
  arrive,
  move,
  travel,
  work,
  serve,
  skip,
}
use Rattle.pnet_run.specs.Promise.{Spaced, Answered}
use Rattle.pnet_run.proofs.Charges.{Covers, free, in_ring}
use Rattle.pnet_run.proofs.Counts.{came_since, answered_since, spent, under_way}
use Rattle.pnet_run.proofs.Queues.{put_rest, join_cases, owned, queue_past, went_own}
use Rattle.pnet_run.proofs.Keeping.{came_past}
use Rattle.pnet_run.proofs.Answering.{NotLate, answered_in_time}
use Rattle.pnet_run.proofs.Spacing.{spaced_before, came_in_order}
use Rattle.pnet_run.proofs.EveryRun.{waits_in_time, credit_by}
use Rattle.pnet_run.proofs.Window.{window_with_jitter}
use Rattle.pnet_run.proofs.Answers.{all_came, spent_counted}
use Rattle.pnet_run.proofs.Shares.{requests, requests_cover, share, extra, share_own, shares_cover, shares_are_the_right_side}
use Rattle.pnet_run.proofs.Progress.{serves}
use Rattle.pnet_run.proofs.Refined.{apart, came_late}

module _ (S : Segment) (declared : Declared S) (h : ℕ → ℕ) (cover : Covers h free S)
    (fits : (m i : ℕ) → Belongs S m i → bound_by h S m ≤ (S.stream i).spacing - (S.stream i).jitter) where
  -- every master keeps its spacing
  abbrev AllSpaced : List Request → Type 0
  AllSpaced came = (m : ℕ) → Spaced S m came

  -- so its arrivals are at least this far apart
  abbrev least : ℕ → ℕ
  least i = (S.stream i).spacing - (S.stream i).jitter

  -- a declared stream is its master's
  own : (i : ℕ) → 1 ≤ i → i ≤ S.number → Belongs S (S.stream i).master i
  own i lo hi = record { from_one = lo; to_last = hi; own = refl }

  module _ (W : ℕ) where
    -- those that are answered in the window came R(y) before it at the earliest (Refined), and so did those that wait: all of them fit the window
    in_window : {t : ℕ} {y : Token} {q : Queues} {came : List Request} {went : List Answer} → Run S t y q came went → AllSpaced came → (a : ℕ)
        → t < a + W → (m i : ℕ) → Belongs S m i → answered_since i a went + came_since i (a - bound_by h S m) (q m) ≤ requests h S W i
    in_window {came = came} z s a l m i b =
        omega (
          arith,
          all_came z m i a from b (came_late S declared h cover fits z s m i a b),
          window_with_jitter from (a + W) (requests h S W i) its.jitter_to (omega arith) (came_in_order z) (s m i b).1
              (λ u j. omega (arith, came_past z (request i u) j)) (omega (arith, rw b.own at (requests_cover h S W i its.spacing_from))),
        )
      where
        from : ℕ
        from = a - bound_by h S m

        its : Ranged S.masters (S.stream i)
        its = declared.ranges i b.from_one b.to_last

    module _ (k : ℕ) where
      abbrev more : ℕ → ℕ
      more = extra h S W k

      -- what W has for the used visits
      abbrev most : ℕ
      most = upto (λ i. requests h S W i * more (S.stream i).master) S.number

      spent_most : (a : ℕ) (went : List Answer) → ((w : Answer) → Memᴰ w went → (m : ℕ) × Belongs S m w.to.of)
          → ((m i : ℕ) → Belongs S m i → answered_since i a went ≤ requests h S W i) → spent more S a went ≤ most
      spent_most a went known few =
          omega (
            arith,
            spent_counted more S a went (λ w j. let b = (known w j).1 in (b.from_one, b.to_last)),
            upto_mono (λ i. answered_since i a went * more (S.stream i).master) (λ i. requests h S W i * more (S.stream i).master) S.number
                (λ i lo hi. mul-le-mul_right (more (S.stream i).master) (few (S.stream i).master i (own i lo hi))),
          )

      -- with the token on its way
      spent_enough : {t : ℕ} {y : Token} {q : Queues} {came : List Request} {went : List Answer} → Run S t y q came went → AllSpaced came
          → (a : ℕ) → t < a + W → spent more S a went ≤ most
      spent_enough {went = went} z s a l = spent_most a went (went_own z) (λ m i b. omega (arith, in_window z s a l m i b))

      -- with the one that master m serves, as if it were answered now
      served_enough : {t m : ℕ} {y : Token} {q : Queues} {r : Request} {rest came : List Request} {went : List Answer} → Run S t y q came went
          → AllSpaced came → q m ≡ r ∷ rest → (a : ℕ) → a ≤ t → t < a + W → more m + spent more S a went ≤ most
      unfolding spent answered_since came_since
      served_enough {t} {m} {q = q} {r = r} {rest = rest} {went = went} z s p a b l =
          rw (le-leb a t b, of_m.own) at
          (spent_most a (answer r t ∷ went)
          (λ w j. ⊎_elim (λ (e : w ≡ answer r t). (m, rw e of_m)) (λ (e : Memᴰ w went). went_own z w e) (Memᴰ.cases_cons j))
          (λ o i d. go o i d (eqb r.of i) refl))
        where
          of_m : Belongs S m r.of
          of_m = owned z m r (rw p (Memᴰ.head refl))

          -- it came in the window too
          waited : a - bound_by h S m ≤ r.since
          waited =
              let ring = in_ring declared of_m in
              omega (arith, (waits_in_time S h m ring.0 ring.1 cover least (fits m) z (apart S declared h cover fits z s m) r (rw p (Memᴰ.head refl))).by_then)

          go : (o i : ℕ) → Belongs S o i → (x : Bool) → eqb r.of i ≡ x → when (x && leb a t) 1 + answered_since i a went ≤ requests h S W i
          go o i d true e =
              let same : r.of ≡ i = eqb-true r.of i e in
              rw (le-leb a t b)
              (omega (arith, rw (p, same, eq-eqb i i refl, le-leb (a - bound_by h S m) r.since waited) at (in_window z s a l m r.of of_m)))
          go o i d false e = omega (arith, in_window z s a l o i d)

      -- ---- A master with a stream, and W at which the right side is at most W

      module _ (1≤k : 1 ≤ k) (k≤n : k ≤ S.masters) (long : 40 < h k) (some : 1 ≤ count S k) (solves : right_by h (asked_by h S) S k W ≤ W) where
        enough : bound_by (share h S W k) S k + most ≤ W
        enough =
            omega (
              arith,
              shares_are_the_right_side h S W k cover.unused 1≤k k≤n
                  (λ i lo hi. let r = declared.ranges i lo hi in (r.master_from, r.master_to)),
            )

        not_zero : 1 ≤ W
        unfolding bound_by turn_by
        not_zero =
            omega (
              arith,
              enough,
              mul-le-mul {n₁ = 1} {m₁ = 1} {n₂ = count S k} {m₂ = turn_by (share h S W k) S} some
                  (omega (arith, share_own h S W k, upto_term (share h S W k) S.masters k 1≤k k≤n)),
            )

        -- while a request of k waits, the used visits cost no more than W has for them
        abbrev Calm : Token → Queues → List Answer → Type 0
        Calm y q went = (r : Request) → Memᴰ r (q k) → under_way more y + spent more S r.since went ≤ most

        waits : {t : ℕ} {y : Token} {q : Queues} {came : List Request} {went : List Answer} → Run S t y q came went → AllSpaced came → Calm y q went
            → (r : Request) → Memᴰ r (q k) → NotLate W r.since t y
        waits z s c r j =
            let b = credit_by S h k 1≤k k≤n cover least (fits k) (share h S W k) more (shares_cover h S W k cover) (omega (arith, share_own h S W k)) z (apart S declared h cover fits z s k) r j in
            let w = c r j in
            record { by_then = omega (arith, enough, b.by_then); before = λ f. omega (arith, enough, b.before f) }

        -- ---- Each step keeps that

        calm_serve : {t m : ℕ} {q : Queues} {r : Request} {rest came : List Request} {went : List Answer} (left : ℕ) → Run S t (toward m 0) q came went
            → AllSpaced came → q m ≡ r ∷ rest → Calm (toward m 0) q went → Calm (serving m left) q went
        calm_serve left z s p c u j = served_enough z s p u.since (queue_past z k u j) ((waits z s c u j).before on_way)

        calm_complete : {t m : ℕ} {q : Queues} {r : Request} {rest came : List Request} {went : List Answer} → Run S t (serving m 0) q came went
            → q m ≡ r ∷ rest → Calm (serving m 0) q went → Calm (toward (next S.masters m) 40) (put q m rest) (answer r t ∷ went)
        unfolding spent
        calm_complete {t} {m} {q} {r} z p c u j =
            let i = put_rest q m k p j in
            rw (le-leb u.since t (queue_past z k u i), (owned z m r (rw p (Memᴰ.head refl))).own) (omega (arith, c u i))

        -- at its arrival nothing that ended before counts for it
        calm_new : {t : ℕ} (y : Token) {q : Queues} {came : List Request} {went : List Answer} → Run S t y q came went → AllSpaced came
            → under_way more y + spent more S t went ≤ most
        calm_new {t} (toward m d) z s = omega (arith, spent_enough z s t (omega (arith, not_zero)))
        calm_new {t} (serving m c) z s = served_enough z s (serves z).is t (le_refl t) (omega (arith, not_zero))

        calm_arrive : {t : ℕ} {y : Token} {q : Queues} {came : List Request} {went : List Answer} (m i : ℕ) → Run S t y q came went → AllSpaced came
            → Calm y q went → Calm y (join q m (request i t)) went
        calm_arrive {t} {y} {q} m i z s c u j =
            ⊎_elim (λ (e : (k ≡ m) × (u ≡ request i t)). rw e.1 (calm_new y z s)) (λ (e : Memᴰ u (q k)). c u e) (join_cases q m k (request i t) j)

        earlier : (r : Request) (came : List Request) → AllSpaced (r ∷ came) → AllSpaced came
        earlier r came s m = spaced_before (s m)

        calm : {t : ℕ} {y : Token} {q : Queues} {came : List Request} {went : List Answer} → Run S t y q came went → AllSpaced came → Calm y q went
        calm (start a b c) s = λ r j. absurd (Memᴰ.not-nil j)
        calm (complete z p) s = calm_complete z p (calm z s)
        calm (arrive {t = t} {m = m} {i = i} {came = came} z o d) s = let e = earlier (request i t) came s in calm_arrive m i z e (calm z e)
        calm (move _ _ never) s = elim never [ ]
        calm (travel e z) s = calm z s
        calm (work e z) s = calm z s
        calm (serve {c = left} e u c z p a b d f w o) s = calm_serve left z s p (calm z s)
        calm (skip e z p a b) s = calm z s

        pub answered_within : {t : ℕ} {y : Token} {q : Queues} {came : List Request} {went : List Answer}
            → Run S t y q came went → AllSpaced came → Answered (bp W) S k t y came went
        answered_within = answered_in_time S k W AllSpaced earlier (λ t y q came went z s. waits z s (calm z s))
