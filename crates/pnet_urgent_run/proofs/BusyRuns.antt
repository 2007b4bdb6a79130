-- Busy's argument to its end: what holds when a request arrives, and so in every run; hence what waits is not late. Assumes nothing.
use Prim.Native.Nat.{ℕ, suc, ◌+◌, ◌*◌, ◌≤◌, ◌<◌}
use mathlib.Core.Path.{◌≡◌, refl, sym, ap, ◌∙◌}
use mathlib.Core.Bool.{Bool, true, false, ◌&&◌, false≢true}
use mathlib.Core.Logic.{inl, ⊎_elim}
use mathlib.Core.List.{List, [], ◌∷◌, ◌++◌, Memᴰ}
use native.Mathlib.Nat.{mul-le-mul_right}
use native.Mathlib.Decide.{ℕ_discrete, dec_le}
use native.Mathlib.Omega.{arith}
use lib.Dec.{leb}
use lib.ListN.{length}
use borrow.Author.Tests.{le-leb}
use Rattle.common.specs.Sums.{when}
use Rattle.common.proofs.Sums.{upto_term}
use Rattle.pnet_rules.specs.Segment.{Segment, turn_by}
use Rattle.pnet_rules.specs.Limits.{Declared}
use Rattle.pnet_urgent_rules.specs.Urgent.{blocked, ahead_in}
use Rattle.pnet_run.specs.Run.{Belongs, Request, request, Answer, put, Token, Settled, RunBy, start, complete, arrive, move, travel, work, serve, skip}
use Rattle.pnet_run.proofs.Charges.{Covers, free}
use Rattle.pnet_run.proofs.Keeping.{put_same, put_other, came_past, owned_by, sent_kept}
use Rattle.pnet_run.proofs.Spacing.{came_in_order}
use Rattle.pnet_run.proofs.Answering.{NotLate}
use Rattle.pnet_run.proofs.Bound.{under_way_free, toll_most, toll_some, toll_settled}
use Rattle.pnet_urgent_run.specs.Stack.{Held, held, stacked}
use Rattle.pnet_urgent_run.specs.Promise.{SpacedUpTo}
use Rattle.pnet_urgent_run.proofs.Kept.{InHeld, stacked_keeps, one_in_stack, join_in}
use Rattle.pnet_urgent_run.proofs.Heeded.{heeded, heeded_master, then_blocked, tally, tally_none, tally_behind, tally_in, arrived, arrived_more, arrived_most}
use Rattle.pnet_urgent_run.proofs.Busy.{spaced_before, 1≤k as one_k, k≤n as k_most, Busy as BusyTime, Inv as Holds, long, over_by, inv_on, inv_serve, inv_skip, inv_complete, inv_move}

module _ (S : Segment) (declared : Declared S) (h : ℕ → ℕ) (cover : Covers h free S) (U : ℕ → Type 0) (k i x : ℕ) (urgent : U k) (mine : Belongs S k i)
    (enough : turn_by h S * (1 + blocked S i + ahead_in S i x) ≤ x) (in_time : x ≤ (S.stream i).deadline) where
  abbrev 1≤k : 1 ≤ k
  1≤k = one_k S declared h cover U k i x urgent mine enough in_time

  abbrev k≤n : k ≤ S.masters
  k≤n = k_most S declared h cover U k i x urgent mine enough in_time

  abbrev lap : ℕ
  lap = turn_by h S

  abbrev counts : ℕ → Bool
  counts = heeded S i

  -- the urgent requests that k has, and the requests that it will serve before it has none
  abbrev urgent_in : Held → ℕ
  urgent_in now = tally counts now.stack + tally counts now.waiting

  abbrev to_serve : Held → ℕ
  to_serve now = length now.stack + tally counts now.waiting

  abbrev came_in : ℕ → List Request → ℕ
  came_in s came = arrived counts S.number s came

  -- Busy's records, of these
  abbrev Busy : ℕ → Token → Held → List Request → ℕ → Type 0
  Busy = BusyTime S declared h cover U k i x urgent mine enough in_time

  abbrev Inv : ℕ → Token → Held → List Request → Type 0
  Inv = Holds S declared h cover U k i x urgent mine enough in_time

  -- ---- An arrival

  module _ {t m j : ℕ} {y : Token} {q : ℕ → Held} {came : List Request} {went : List Answer} (z : RunBy (stacked S U) S t y q came went) (settled : Settled y)
      (own : Belongs S m j) (spaced : SpacedUpTo S i (request j t ∷ came)) (I : Inv t y (q k) came) where
    abbrev new : Request
    new = request j t

    abbrev joined : Held
    joined = held (q k).stack ((q k).waiting ++ (new ∷ []))

    counted_on : (s : ℕ) → t < s + x → came_in s (new ∷ came) ≤ 1 + ahead_in S i x
    counted_on s l =
        arrived_most S declared i x mine.from_one mine.to_last in_time s (new ∷ came) spaced (came_in_order (arrive z settled own))
        (λ p c. omega (arith, came_past (arrive z settled own) p c))

    more : (s : ℕ) → came_in s (new ∷ came) ≡ when (counts j && leb s t) 1 + came_in s came
    more s = arrived_more counts S.number s new came own.from_one own.to_last

    -- of a stream that does not count, wherever it goes
    arrive_other : counts j ≡ false → (after : Held) → urgent_in after ≡ urgent_in (q k) → to_serve after ≡ to_serve (q k)
        → ((p : Request) → InHeld after p → counts p.of ≡ true → InHeld (q k) p) → Inv t y after (new ∷ came)
    arrive_other e after same_urgent same_many was = record {
      token = I.token;
      busy = λ some.
          let b = I.busy (omega arith) in
          let none : came_in b.0 (new ∷ came) ≡ came_in b.0 came = omega (arith, rw e at (more b.0)) in (
            b.0,
            record {
              begun = b.1.begun;
              over = omega (arith, b.1.over, ap (λ (n : ℕ). n * lap) same_many, ap (λ (n : ℕ). n * lap) none);
              counted = omega (arith, b.1.counted);
              since = λ p c f. b.1.since p (was p c f) f;
            },
          );
    }

    -- of one that counts
    module _ (e : counts j ≡ true) where
      one_more : to_serve joined ≡ suc (to_serve (q k))
      one_more = omega (arith, rw e at (tally_behind counts (q k).waiting new))

      counted_more : (s : ℕ) → s ≤ t → came_in s (new ∷ came) ≡ 1 + came_in s came
      counted_more s l = rw (e, le-leb s t l) at (more s)

      -- in a busy time
      arrive_busy : (s : ℕ) → 1 ≤ urgent_in (q k) → Busy t y (q k) came s → Busy t y joined (new ∷ came) s
      arrive_busy s some b =
          let before : t < s + x = omega (arith, over_by S declared h cover U k i x urgent mine enough in_time some b, toll_settled S h free k 1≤k k≤n cover I.token settled (long S declared h cover U k i x urgent mine enough in_time)) in
          record {
            begun = b.begun;
            over = omega (arith, b.over, ap (λ (n : ℕ). n * lap) one_more, ap (λ (n : ℕ). n * lap) (counted_more s b.begun));
            counted = counted_on s before;
            since = λ p c f. ⊎_elim (λ (a : p ≡ new). rw a b.begun) (λ (a : InHeld (q k) p). b.since p a f) (join_in (q k) new p c);
          }

      -- what is in the stack when a busy time begins is behind i
      stack_blocked : urgent_in (q k) ≡ 0 → length (q k).stack ≤ blocked S i
      stack_blocked none = go (q k).stack refl
        where
          go : (l : List Request) → (q k).stack ≡ l → length l ≤ blocked S i
          go [] f = omega arith
          go (p ∷ l) f =
              let is : Memᴰ p (q k).stack = rw f (mathlib.Core.List.Memᴰ.head refl) in
              let its : Belongs S k p.of = owned_by (stacked_keeps S U) z k p (inl is) in
              let b = then_blocked S i p.of (rw mine.own its) (not_counted p is) in
              omega (arith, one_in_stack z k, ap length f)
            where
              not_counted : (p : Request) → Memᴰ p (q k).stack → counts p.of ≡ false
              not_counted p is = by (counts p.of) refl
                where
                  by : (b : Bool) → counts p.of ≡ b → b ≡ false
                  by true g = absurd (omega (arith, tally_in counts (q k).stack p is g))
                  by false g = refl

      some_x : 1 ≤ x
      unfolding turn_by
      some_x = omega (arith, enough, upto_term h S.masters k 1≤k k≤n, long S declared h cover U k i x urgent mine enough in_time)

      arrive_first : urgent_in (q k) ≡ 0 → Busy t y joined (new ∷ came) t
      arrive_first none =
          let few : to_serve joined ≤ blocked S i + came_in t (new ∷ came) = omega (arith, one_more, stack_blocked none, counted_more t (omega arith)) in
          record {
            begun = omega arith;
            over = omega (arith, toll_most S h free k 1≤k k≤n cover y I.token, under_way_free y, mul-le-mul_right lap few);
            counted = counted_on t (omega (arith, some_x));
            since = λ p c f. ⊎_elim (λ (a : p ≡ new). rw a (omega arith)) (λ (a : InHeld (q k) p). absurd (not_there p f a)) (join_in (q k) new p c);
          }
        where
          not_there : (p : Request) → counts p.of ≡ true → InHeld (q k) p → ⊥
          not_there p f =
              ⊎_elim (λ (c : Memᴰ p (q k).stack). omega (arith, tally_in counts (q k).stack p c f))
              (λ (c : Memᴰ p (q k).waiting). omega (arith, tally_in counts (q k).waiting p c f))

      arrive_urgent : Inv t y joined (new ∷ came)
      arrive_urgent = record { token = I.token; busy = λ some. go (dec_le 1 (urgent_in (q k))) }
        where
          go : Dec (1 ≤ urgent_in (q k)) → (s : ℕ) × Busy t y joined (new ∷ came) s
          go (yes some) = let b = I.busy some in (b.0, arrive_busy b.0 some b.1)
          go (no none) = (t, arrive_first (omega (arith, none)))

    inv_arrive : Inv t y (put q m (held (q m).stack ((q m).waiting ++ (new ∷ []))) k) (new ∷ came)
    inv_arrive = go (ℕ_discrete m k) (counts j) refl
      where
        go : Dec (m ≡ k) → (b : Bool) → counts j ≡ b → Inv t y (put q m (held (q m).stack ((q m).waiting ++ (new ∷ []))) k) (new ∷ came)
        go (yes e) true f = rw (e, put_same q k joined) (arrive_urgent f)
        go (yes e) false f =
            rw (e, put_same q k joined)
            (arrive_other f joined (omega (arith, rw f at (tally_behind counts (q k).waiting new))) (omega (arith, rw f at (tally_behind counts (q k).waiting new)))
            (λ p c g. ⊎_elim (λ (a : p ≡ new). absurd (false≢true (sym f ∙ rw a at g))) (λ (a : InHeld (q k) p). a) (join_in (q k) new p c)))
        go (no e) true f = absurd (e (sym own.own ∙ heeded_master S i j f ∙ mine.own))
        go (no e) false f = rw (put_other q m _ k (λ a. e (sym a))) (arrive_other f (q k) refl refl (λ p c g. c))

  -- ---- Every run

  inv : {t : ℕ} {y : Token} {q : ℕ → Held} {came : List Request} {went : List Answer} (z : RunBy (stacked S U) S t y q came went) → SpacedUpTo S i came → Inv t y (q k) came
  inv (start a b c) s = record { token = omega arith; busy = λ some. absurd (omega (arith, tally_none counts)) }
  inv (complete {q = q} z p) s = inv_complete S declared h cover U k i x urgent mine enough in_time q (inv z s) p
  inv (arrive z o d) s = inv_arrive z o d s (inv z (spaced_before S i s))
  inv (move {q = q} z o p) s = inv_move S declared h cover U k i x urgent mine enough in_time q (inv z s) p (owned_by (stacked_keeps S U) z k)
  inv (travel e z) s = let I = inv z s in inv_on S declared h cover U k i x urgent mine enough in_time (omega arith) (omega arith) (omega arith) I
  inv (work e z) s = let I = inv z s in inv_on S declared h cover U k i x urgent mine enough in_time (omega arith) (omega arith) (omega arith) I
  inv (serve {m = m} {q = q} {r = r} {rest = rest} e u v z p a b c d f g) s =
      inv_serve S declared h cover U k i x urgent mine enough in_time e (inv z s) (owned_by (stacked_keeps S U) z m r (sent_kept (stacked_keeps S U) q m rest r p)) (omega arith)
  inv (skip {q = q} e z p a b) s = inv_skip S declared h cover U k i x urgent mine enough in_time q e (inv z s) p (omega arith)

  -- ---- What waits is not late

  pub waits_in_time : {t : ℕ} {y : Token} {q : ℕ → Held} {came : List Request} {went : List Answer} → RunBy (stacked S U) S t y q came went → SpacedUpTo S i came
      → (r : Request) → InHeld (q k) r → heeded S i r.of ≡ true → NotLate x r.since t y
  waits_in_time {t} {y} {q} z s r j e =
      let I = inv z s in
      let b = I.busy there in
      let end = over_by S declared h cover U k i x urgent mine enough in_time there b.1 in
      let from = b.1.since r j e in
      record {
        by_then = omega (arith, toll_some S h free k 1≤k k≤n cover y I.token (long S declared h cover U k i x urgent mine enough in_time));
        before = λ o. omega (arith, toll_settled S h free k 1≤k k≤n cover I.token o (long S declared h cover U k i x urgent mine enough in_time));
      }
    where
      there : 1 ≤ urgent_in (q k)
      there =
          ⊎_elim (λ (c : Memᴰ r (q k).stack). omega (arith, tally_in counts (q k).stack r c e))
          (λ (c : Memᴰ r (q k).waiting). omega (arith, tally_in counts (q k).waiting r c e)) j
