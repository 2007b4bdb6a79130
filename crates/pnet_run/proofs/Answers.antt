-- What the answers since an instant come to: they and the requests that wait have all come, and what they cost is counted stream by
-- stream. Assumes nothing.
use Prim.Native.Nat.{ℕ, ◌+◌, ◌*◌, ◌≤◌}
use mathlib.Core.Path.{◌≡◌, refl, sym, ap, ◌∙◌}
use mathlib.Core.Bool.{Bool, true, false, ◌&&◌}
use mathlib.Core.Logic.{◌≢◌}
use mathlib.Core.List.{List, [], ◌∷◌, ◌++◌, Memᴰ}
use native.Mathlib.Decide.{ℕ_discrete}
use native.Mathlib.Omega.{arith}
use lib.Dec.{eqb, leb}
use borrow.Author.Tests.{eq-eqb, ne_eqb, eqb-true, leb-true, le-leb}
use Rattle.common.specs.Sums.{when, upto}
use Rattle.common.proofs.Sums.{upto_but_one}
use Rattle.pnet_rules.specs.Segment.{Segment}
use Rattle.pnet_run.specs.Run.{
  Belongs,
  Request,
  request,
  Answer,
  Queues,
  put,
  join,
  Token,
  Run,
  start,
  complete,
  arrive,
  move,
  travel,
  work,
  serve,
  skip,
}
use Rattle.pnet_run.proofs.Counts.{came_since, answered_since, spent}
use Rattle.pnet_run.proofs.Keeping.{put_same, put_other}
use Rattle.pnet_run.proofs.Queues.{owned}

-- ---- What came is what waits and what was answered

-- the answered requests of stream i that came at lo or later
unfoldable served_since : ℕ → ℕ → List Answer → ℕ
served_since i lo [] = 0
served_since i lo (w ∷ went) = when (eqb w.to.of i && leb lo w.to.since) 1 + served_since i lo went

-- a count does not ask where in the list a request is
came_behind : (i lo : ℕ) (l : List Request) (r : Request) → came_since i lo (l ++ (r ∷ [])) ≡ came_since i lo (r ∷ l)
unfolding came_since
came_behind i lo [] r = refl
came_behind i lo (s ∷ l) r = omega (arith, came_behind i lo l r)

-- another stream's request is not counted
not_counted : (i : ℕ) (b : Bool) (r : Request) → r.of ≢ i → when (eqb r.of i && b) 1 ≡ 0
not_counted i b r n = rw (ne_eqb r.of i n) refl

-- streams of two masters differ
other_stream : {S : Segment} {m o i j : ℕ} → Belongs S m i → Belongs S o j → m ≢ o → j ≢ i
other_stream {S} d f n e = n (sym d.own ∙ ap (λ (u : ℕ). (S.stream u).master) (sym e) ∙ f.own)

-- a request that came waits with its master until it is answered, so none is lost and none is counted twice
balance : {S : Segment} {t : ℕ} {y : Token} {q : Queues} {came : List Request} {went : List Answer} → Run S t y q came went → (m i lo : ℕ)
    → Belongs S m i → came_since i lo came ≡ came_since i lo (q m) + served_since i lo went
unfolding came_since served_since
balance (start a b c) m i lo d = refl
balance (complete {m = o} {q = q} {r = r} {rest = rest} {came = came} {went = went} z p) m i lo d = go (ℕ_discrete m o) (balance z m i lo d)
  where
    one : ℕ
    one = when (eqb r.of i && leb lo r.since) 1

    go : Dec (m ≡ o) → came_since i lo came ≡ came_since i lo (q m) + served_since i lo went
        → came_since i lo came ≡ came_since i lo (put q o rest m) + (one + served_since i lo went)
    go (yes e) h = rw (e, put_same q o rest) (omega (arith, rw (e, p) at h))
    go (no n) h =
        rw (put_other q o rest m n) (omega (arith, h, not_counted i (leb lo r.since) r (other_stream d (owned z o r (rw p (Memᴰ.head refl))) n)))
balance (arrive {t = t} {m = o} {i = j} {q = q} {came = came} {went = went} z s f) m i lo d = go (ℕ_discrete m o) (balance z m i lo d)
  where
    r : Request
    r = request j t

    one : ℕ
    one = when (eqb j i && leb lo t) 1

    go : Dec (m ≡ o) → came_since i lo came ≡ came_since i lo (q m) + served_since i lo went
        → one + came_since i lo came ≡ came_since i lo (join q o r m) + served_since i lo went
    go (yes e) h = rw (e, put_same q o (q o ++ (r ∷ []))) (omega (arith, rw e at h, came_behind i lo (q o) r))
    go (no n) h = rw (put_other q o (q o ++ (r ∷ [])) m n) (omega (arith, h, not_counted i (leb lo t) r (other_stream d f n)))
balance (move _ _ never) m i lo d = elim never [ ]
balance (travel e z) m i lo d = balance z m i lo d
balance (work e z) m i lo d = balance z m i lo d
balance (serve e x c z p a b f g k o) m i lo d = balance z m i lo d
balance (skip e z p a b) m i lo d = balance z m i lo d

-- where each request answered since a came since lo, the first count is at most the second
served_least : (i a lo : ℕ) (went : List Answer) → ((w : Answer) → Memᴰ w went → w.to.of ≡ i → a ≤ w.at → lo ≤ w.to.since)
    → answered_since i a went ≤ served_since i lo went
unfolding answered_since served_since
served_least i a lo [] late = omega arith
served_least i a lo (w ∷ went) late = go (served_least i a lo went (λ u j. late u (Memᴰ.tail j))) (eqb w.to.of i) refl (leb a w.at) refl
  where
    go : answered_since i a went ≤ served_since i lo went → (x : Bool) → eqb w.to.of i ≡ x → (y : Bool) → leb a w.at ≡ y
        → when (x && y) 1 + answered_since i a went ≤ when (x && leb lo w.to.since) 1 + served_since i lo went
    go ih true e true g =
        rw (le-leb lo w.to.since (late w (Memᴰ.head refl) (eqb-true w.to.of i e) (leb-true a w.at g))) (omega arith)
    go ih true e false g = omega arith
    go ih false e y g = omega arith

-- the answers of stream i since a, and its requests that wait, have all come since lo
pub all_came : {S : Segment} {t : ℕ} {y : Token} {q : Queues} {came : List Request} {went : List Answer} → Run S t y q came went
    → (m i a lo : ℕ) → Belongs S m i → ((w : Answer) → Memᴰ w went → w.to.of ≡ i → a ≤ w.at → lo ≤ w.to.since)
    → answered_since i a went + came_since i lo (q m) ≤ came_since i lo came
all_came {went = went} z m i a lo d late = omega (arith, balance z m i lo d, served_least i a lo went late)

-- ---- The surcharges, stream by stream

-- one more of v each, if the test holds
one_more : (b : Bool) (n v : ℕ) → (when b 1 + n) * v ≡ when b v + n * v
one_more true n v = omega arith
one_more false n v = omega arith

-- a visit is counted with the one stream that it served
pub spent_counted : (x : ℕ → ℕ) (S : Segment) (a : ℕ) (went : List Answer)
    → ((w : Answer) → Memᴰ w went → (1 ≤ w.to.of) × (w.to.of ≤ S.number))
    → spent x S a went ≤ upto (λ i. answered_since i a went * x (S.stream i).master) S.number
unfolding spent answered_since
spent_counted x S a [] known = omega arith
spent_counted x S a (w ∷ went) known =
    omega (
      arith,
      spent_counted x S a went (λ u j. known u (Memᴰ.tail j)),
      upto_but_one before after S.number of range.0 range.1 others,
      own,
    )
  where
    of : ℕ
    of = w.to.of

    range : (1 ≤ of) × (of ≤ S.number)
    range = known w (Memᴰ.head refl)

    before : ℕ → ℕ
    before i = answered_since i a went * x (S.stream i).master

    after : ℕ → ℕ
    after i = (when (eqb of i && leb a w.at) 1 + answered_since i a went) * x (S.stream i).master

    others : (i : ℕ) → i ≢ of → before i ≡ after i
    others i n = rw (not_counted i (leb a w.at) w.to (λ e. n (sym e))) (omega arith)

    own : after of ≡ when (leb a w.at) (x (S.stream of).master) + before of
    own = rw (eq-eqb of of refl) (one_more (leb a w.at) (answered_since of a went) (x (S.stream of).master))
