-- Some run takes exactly the bound of edition 1. Assumes nothing.
--
-- The run: every stream asks once at 0, the token has just left master k, and every reaction and message is as long as can be. From
-- then on each turn takes V, and brings k's queue forward by one. So k's last request is answered after s turns.
use Prim.Native.Nat.{ℕ, zero, suc, ◌+◌, ◌-◌, ◌*◌, ◌≤◌, ◌<◌}
use mathlib.Core.Path.{◌≡◌, refl, ap, sym, ◌∙◌, subst}
use mathlib.Core.Logic.{◌≢◌, ⊎_elim}
use mathlib.Core.List.Memᴰ
use mathlib.Core.List.{List, [], ◌∷◌, Memᴰ}
use native.Mathlib.Nat.{le_refl}
use native.Mathlib.Decide.{ℕ_discrete, dec_le}
use native.Mathlib.Omega.{arith}
use lib.ListN.{length, length-map}
use lib.Dec.{ltb}
use borrow.Author.Tests.{lt-ltb, le-ltb}
use Rattle.common.specs.Sums.{when, upto}
use Rattle.units.specs.Units.{bp}
use Rattle.pnet_rules.specs.Segment.{Segment, owns, count, hold, charged, turn, turn_by, bound_by, bound}
use Rattle.pnet_rules.specs.Limits.{Declared}
use Rattle.pnet_rules.proofs.Holds.{hold_none, charged_first}
use Rattle.pnet_run.specs.Run.{
  Belongs,
  Request,
  request,
  Answer,
  answer,
  Queues,
  put,
  Token,
  toward,
  next,
  Run,
  travel,
  skip,
}
use Rattle.pnet_run.specs.Promise.{Reached, Even}
use Rattle.pnet_run.proofs.Keeping.{put_same, put_other}
use Rattle.pnet_run.proofs.Queues.{put_rest, owned}
use Rattle.pnet_run.proofs.Ring.{next_in_ring, gap, gap_own, gap_next, gap_lap, gap_most, gap_apart}
use Rattle.pnet_run.proofs.Charges.{some_cycle, hold_alike}
use Rattle.pnet_run.proofs.Picked.{picked, length_picked}
use Rattle.pnet_run.proofs.Slowest.{slowest, asked, queues_to, asked_to, all_asked, asked_each, asked_spaced}

-- 1 if a < b, else 0
less : ℕ → ℕ → ℕ
less a b = when (ltb a b) 1

less_one : {a b : ℕ} → a < b → less a b ≡ 1
unfolding less
less_one {a} {b} l = rw (lt-ltb a b l)

less_none : {a b : ℕ} → b ≤ a → less a b ≡ 0
unfolding less
less_none {a} {b} l = rw (le-ltb a b l)

module _ (S : Segment) (k : ℕ) (1≤k : 1 ≤ k) (k≤n : k ≤ S.masters) (declared : Declared S) (even : Even S k) where
  abbrev N : ℕ
  N = S.masters

  abbrev after : ℕ → ℕ
  after m = next N m

  -- how many masters the token visits behind m, up to k itself
  abbrev far : ℕ → ℕ
  far m = gap (λ z. 1) N k m

  -- how often the token has been at y when it is in its turn j, counted from 0, and on its way to m: a turn begins behind k
  abbrev visits : ℕ → ℕ → ℕ → ℕ
  visits j m y = j + less (far m) (far y)

  -- a stage of the run: each master with streams has answered one request a visit
  record Stage (j m t : ℕ) (y : Token) (went : List Answer) : Type 0 where
    queues : Queues
    run : Run S t y queues (asked_to S.number) went
    left : (y : ℕ) → 1 ≤ y → y ≤ N → 1 ≤ count S y → length (queues y) + visits j m y ≡ count S y
    fresh : (y : ℕ) (r : Request) → Memᴰ r (queues y) → r.since ≡ 0

  next_in : {m : ℕ} → m ≤ N → (1 ≤ after m) × (after m ≤ N)
  next_in {m} l = next_in_ring N m (omega arith) l

  -- ---- One visit

  -- the visit to m counts for m alone
  record Moves (j m j' : ℕ) : Type 0 where
    here : visits j' (after m) m ≡ suc (visits j m m)
    there : (y : ℕ) → 1 ≤ y → y ≤ N → y ≢ m → visits j' (after m) y ≡ visits j m y

  moves_on : (j m : ℕ) → 1 ≤ m → m ≤ N → m ≢ k → Moves j m j
  moves_on j m a b n = record {
    here = omega (arith, less_none {a = far m} {b = far m} (le_refl _), less_one {a = far (after m)} {b = far m} (omega (arith, closer)));
    there = λ y lo hi z. go y (dec_le (far y) (far m)) (λ e. z (gap_apart N k lo hi a b e));
  }
    where
      closer : far m ≡ suc (far (after m))
      closer = omega (arith, gap_next (λ z. 1) N k 1≤k k≤n m b n)

      go : (y : ℕ) → Dec (far y ≤ far m) → far y ≢ far m → visits j (after m) y ≡ visits j m y
      go y (yes l) z = omega (arith, less_none l, less_none {a = far (after m)} {b = far y} (omega (arith, z, closer)))
      go y (no l) z = omega (arith, less_one {a = far m} {b = far y} (omega arith), less_one {a = far (after m)} {b = far y} (omega (arith, closer)))

  farthest : (y : ℕ) → 1 ≤ y → y ≤ N → far y ≤ far (after k)
  farthest y lo hi = omega (arith, gap_most (λ z. 1) N k 1≤k k≤n y lo hi, gap_lap (λ z. 1) N k 1≤k k≤n)

  moves_round : (j : ℕ) → Moves j k (suc j)
  moves_round j = record {
    here = omega (arith, less_none {a = far k} {b = far k} (le_refl _), less_none (farthest k 1≤k k≤n));
    there = λ y lo hi z. omega (arith, less_none (farthest y lo hi), less_one (some y lo hi z));
  }
    where
      some : (y : ℕ) → 1 ≤ y → y ≤ N → y ≢ k → far k < far y
      some y lo hi z = let w : far y ≢ far k = λ e. z (gap_apart N k lo hi 1≤k k≤n e) in omega (arith, gap_own (λ z. 1) N k)

  -- the oldest of m is served as long as can be
  served : {j j' m t : ℕ} {went : List Answer} {r : Request} {rest : List Request} (g : Stage j m t (toward m 0) went) → g.queues m ≡ r ∷ rest
      → Moves j m j' → Stage j' (after m) (t + (7 + (S.stream r.of).cycle)) (toward (after m) 40) (answer r (t + (7 + (S.stream r.of).cycle)) ∷ went)
  served {j} {j'} {m} {t} {went} {r} {rest} g p moves = record {
    queues = put g.queues m rest;
    run = slowest g.run p (some_cycle declared own);
    left = λ y lo hi some. at y lo hi some (ℕ_discrete y m);
    fresh = λ y s i. g.fresh y s (put_rest g.queues m y p i);
  }
    where
      own : Belongs S m r.of
      own = owned g.run m r (rw p (Memᴰ.head refl))

      at : (y : ℕ) → 1 ≤ y → y ≤ N → 1 ≤ count S y → Dec (y ≡ m) → length (put g.queues m rest y) + visits j' (after m) y ≡ count S y
      at y lo hi some (yes e) = rw (e, put_same g.queues m rest) (omega (arith, moves.here, rw (e, p) at (g.left y lo hi some)))
      at y lo hi some (no z) = rw (put_other g.queues m rest y z) (omega (arith, moves.there y lo hi z, g.left y lo hi some))

  -- a visit to a master with streams is used, as long as k has requests left
  busy : {j m t : ℕ} {went : List Answer} (g : Stage j m t (toward m 0) went) → 1 ≤ m → m ≤ N → j < count S k → 1 ≤ count S m → 1 ≤ length (g.queues m)
  busy {j} {m} g a b l some = go (ℕ_discrete m k)
    where
      enough : Dec (m ≡ k) → j < count S m
      enough (yes e) = omega (arith, ap (count S) e)
      enough (no z) = ⊎_elim (λ (e : count S m ≡ 0). absurd (omega arith)) (λ (e : count S k ≤ count S m). omega arith) (even.others m a b z)

      go : Dec (m ≡ k) → 1 ≤ length (g.queues m)
      go d = omega (arith, enough d, g.left m a b some, less_none {a = far m} {b = far m} (le_refl _))

  -- and takes H, with the pass behind it
  hold_served : {m : ℕ} (i : ℕ) → Belongs S m i → 7 + (S.stream i).cycle + 40 ≡ hold S m
  hold_served {m} i d = omega (arith, hold_alike d (λ j e. omega (arith, even.alike m j i e d)))

  at : {j m t u : ℕ} {y : Token} {went : List Answer} → t ≡ u → Stage j m t y went → Stage j m u y went
  at {j} {m} {t} {u} {y} {went} e g = subst (λ (x : ℕ). Stage j m x y went) e g

  passed : {j m t d : ℕ} {went : List Answer} (e : ℕ) → Stage j m t (toward m (e + d)) went → Stage j m (t + e) (toward m d) went
  passed e g = record { queues = g.queues; run = travel e g.run; left = g.left; fresh = g.fresh }

  record Later (j m t : ℕ) : Type 0 where
    went : List Answer
    stage : Stage j m t (toward m 0) went

  -- on from a master other than k
  visit : {j m t : ℕ} {went : List Answer} → 1 ≤ m → m ≤ N → m ≢ k → j < count S k → Stage j m t (toward m 0) went → Later j (after m) (t + hold S m)
  visit {j} {m} {t} {went} a b n l g = go (g.queues m) refl
    where
      go : (q : List Request) → g.queues m ≡ q → Later j (after m) (t + hold S m)
      go (r ∷ rest) p = record {
        went = _;
        stage = at (omega (arith, hold_served r.of (owned g.run m r (rw p (Memᴰ.head refl))))) (passed {d = 0} 40 (served g p (moves_on j m a b n)));
      }
      go [] p = record {
        went = went;
        stage = record {
          queues = g.queues;
          run = rw (hold_none S m silent) (skip {d = 0} 10 g.run p (omega arith) refl);
          left = λ y lo hi some. omega (arith, (moves_on j m a b n).there y lo hi (λ e. omega (arith, silent, ap (count S) e)), g.left y lo hi some);
          fresh = g.fresh;
        };
      }
        where
          silent : count S m ≡ 0
          silent = elim (dec_le 1 (count S m)) [ yes s ↦ absurd (omega (arith, busy g a b l s, ap length p)) | no s ↦ omega arith ]

  -- ---- One turn

  -- V is the sum of H: so it is under edition 1
  turn_first : turn S ≡ upto (hold S) N
  unfolding turn turn_by
  turn_first = ap (λ (h : ℕ → ℕ). upto h N) (charged_first S (λ e. omega (arith, even.first_edition)))

  record Arrived (j m t : ℕ) : Type 0 where
    now : ℕ
    went : List Answer
    stage : Stage j k now (toward k 0) went
    time : now + hold S k ≡ t + (hold S m + gap (hold S) N k m)

  -- from m on to k
  walk : {j m t : ℕ} {went : List Answer} (x : ℕ) → far m ≡ x → 1 ≤ m → m ≤ N → j < count S k → Stage j m t (toward m 0) went → Arrived j m t
  walk {j} {m} {t} {went} zero e a b l g =
      let here : m ≡ k = gap_apart N k a b 1≤k k≤n (e ∙ sym (gap_own (λ z. 1) N k)) in
      record { now = t; went = went; stage = subst (λ (x : ℕ). Stage j x t (toward x 0) went) here g; time = omega (arith, ap (hold S) here, gap_own (hold S) N k, ap (gap (hold S) N k) here) }
  walk {j} {m} {t} (suc x) e a b l g = on (walk {m = after m} x (omega (arith, closer)) (next_in b).0 (next_in b).1 l (visit a b n l g).stage)
    where
      n : m ≢ k
      n z = omega (arith, ap far z, gap_own (λ z. 1) N k)

      closer : far m ≡ suc (far (after m))
      closer = omega (arith, gap_next (λ z. 1) N k 1≤k k≤n m b n)

      on : Arrived j (after m) (t + hold S m) → Arrived j m t
      on r = record { now = r.now; went = r.went; stage = r.stage; time = omega (arith, r.time, gap_next (hold S) N k 1≤k k≤n m b n) }

  -- the token has just left k again, and k has answered one request more, V later
  record Turned (j t : ℕ) : Type 0 where
    went : List Answer
    slow : Request
    own : Belongs S k slow.of
    since : slow.since ≡ 0
    stage : Stage j (after k) t (toward (after k) 40) (answer slow t ∷ went)

  turned : {j t : ℕ} {went : List Answer} → j < count S k → Stage j (after k) t (toward (after k) 40) went → Turned (suc j) (t + turn S)
  turned {j} {t} l g = at_k (walk (far (after k)) refl (next_in k≤n).0 (next_in k≤n).1 l (passed {d = 0} 40 g))
    where
      at_k : Arrived j (after k) (t + 40) → Turned (suc j) (t + turn S)
      at_k r = go (r.stage.queues k) refl
        where
          go : (q : List Request) → r.stage.queues k ≡ q → Turned (suc j) (t + turn S)
          go [] p = absurd (omega (arith, busy r.stage 1≤k k≤n l (omega arith), ap length p))
          go (s ∷ rest) p = record {
            went = r.went;
            slow = s;
            own = own;
            since = r.stage.fresh k s (rw p (Memᴰ.head refl));
            stage = rw time at (served r.stage p (moves_round j));
          }
            where
              own : Belongs S k s.of
              own = owned r.stage.run k s (rw p (Memᴰ.head refl))

              time : r.now + (7 + (S.stream s.of).cycle) ≡ t + turn S
              time = omega (arith, r.time, hold_served s.of own, gap_lap (hold S) N k 1≤k k≤n, turn_first)

  -- ---- All turns

  record After (j : ℕ) : Type 0 where
    went : List Answer
    stage : Stage j (after k) (j * turn S) (toward (after k) 40) went

  -- each master's queue is as long as it has streams, and no visit has been made yet
  first : Stage 0 (after k) 0 (toward (after k) 40) []
  unfolding count
  first = record {
    queues = queues_to S S.number;
    run = all_asked S (next_in k≤n).0 (next_in k≤n).1 (omega arith);
    left = λ y lo hi some. omega (arith, length-map (picked (owns S y) S.number) asked, length_picked (owns S y) S.number, less_none (farthest y lo hi));
    fresh = λ y r i. let o = Memᴰ.of_map asked (picked (owns S y) S.number) i in sym (ap (λ (s : Request). s.since) o.2);
  }

  one_more : (j : ℕ) → suc j ≤ count S k → After j → After (suc j)
  one_more j l a = let r = turned l a.stage in record { went = answer r.slow (j * turn S + turn S) ∷ r.went; stage = at (omega arith) r.stage }

  turns : (j : ℕ) → j ≤ count S k → After j
  turns zero l = record { went = []; stage = at (omega arith) first }
  turns (suc j) l = one_more j l (turns j (omega arith))

  reached : (j : ℕ) → suc j ≡ count S k → Turned (suc j) (j * turn S + turn S) → Reached (bp (bound S k)) S k
  unfolding bound bound_by turn
  reached j e r = record {
    now = j * turn S + turn S;
    token = toward (after k) 40;
    queues = r.stage.queues;
    came = asked_to S.number;
    went = answer r.slow (j * turn S + turn S) ∷ r.went;
    run = r.stage.run;
    spaced = asked_spaced S;
    slow = r.slow;
    arrived = rw (ap (request r.slow.of) r.since) (asked_each S.number r.slow.of r.own.from_one r.own.to_last);
    own = r.own;
    exact = rw time (Memᴰ.head refl);
  }
    where
      time : r.slow.since + bound S k ≡ j * turn S + turn S
      time = omega (arith, r.since, ap (λ (x : ℕ). x * turn_by (charged S) S) e)

  pub exact : 1 ≤ count S k → Reached (bp (bound S k)) S k
  exact some = reached (count S k - 1) (omega arith) (turned (omega arith) (turns (count S k - 1) (omega arith)).stage)
