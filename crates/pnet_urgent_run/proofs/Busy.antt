-- Ask 11's figure holds in every run in which stream i and the streams ahead of it keep their spacing: for any charge that covers the longest visit to each master.
-- Assumes nothing.
--
-- The argument. Call a request urgent if it is of stream i or of one ahead of it. A busy time begins when an urgent request comes to master k and finds no other there. Before it
-- ends, k serves the urgent ones that come, and one more at most: one that was in the stack at the beginning, which b pays for. For what is handed down while an urgent
-- request waits is urgent. So at every stage the token comes to the last of those that are there by the beginning, as many turns as urgent requests have come
-- since, b more, and no later. In a window of x, urgent streams ask no oftener than the figure counts, stream i itself once: hence the busy time is over within x of its
-- beginning, and each request of it is answered within x of its arrival. That a busy time may last beyond the answer to i's request does not matter: the window is x
-- long, whatever has been answered. From the arrival on, it is in BusyRuns.
--
-- `toll` is Bound's: the longest time until k has answered its next request and passed the token on.
use Prim.Native.Nat.{ℕ, suc, ◌+◌, ◌*◌, ◌≤◌, ◌<◌}
use mathlib.Core.Path.{◌≡◌, refl, sym, ap, ◌∙◌}
use mathlib.Core.Bool.{Bool, true, false, false≢true}
use mathlib.Core.Logic.{inr}
use mathlib.Core.List.{List, [], ◌∷◌, ◌++◌, Memᴰ}
use native.Mathlib.Nat.{mul-le-mul_right}
use native.Mathlib.Decide.{ℕ_discrete}
use native.Mathlib.Omega.{arith}
use lib.ListN.{length}
use Rattle.common.specs.Sums.{when}
use Rattle.pnet_rules.specs.Segment.{Segment, turn_by}
use Rattle.pnet_rules.specs.Limits.{Declared}
use Rattle.pnet_urgent_rules.specs.Urgent.{blocked, ahead_in}
use Rattle.pnet_run.specs.Run.{Belongs, Request, put, Token, toward, serving, next}
use Rattle.pnet_run.proofs.Charges.{Covers, free, in_ring}
use Rattle.pnet_run.proofs.Keeping.{put_same, put_other}
use Rattle.pnet_run.proofs.Ring.{gap_next, gap_lap}
use Rattle.pnet_run.proofs.Spacing.{kept_before}
use Rattle.pnet_run.proofs.Bound.{toll, Sane, next_in}
use Rattle.pnet_urgent_run.specs.Stack.{Held, HandsDown, Sends, Nothing}
use Rattle.pnet_urgent_run.specs.Promise.{SpacedUpTo}
use Rattle.pnet_urgent_run.proofs.Kept.{InHeld, taken_was, length_snoc, down_in, send_out}
use Rattle.pnet_urgent_run.proofs.Heeded.{heeded, behind_all, tally, tally_none, tally_first, tally_behind, tally_taken, tally_most, tally_some, arrived}

-- what was kept before the latest request came
pub spaced_before : (S : Segment) (i : ℕ) {r : Request} {came : List Request} → SpacedUpTo S i (r ∷ came) → SpacedUpTo S i came
spaced_before S i spaced j u a b = kept_before (spaced j u a b).1

module _ (S : Segment) (declared : Declared S) (h : ℕ → ℕ) (cover : Covers h free S) (U : ℕ → Type 0) (k i x : ℕ) (urgent : U k) (mine : Belongs S k i)
    (enough : turn_by h S * (1 + blocked S i + ahead_in S i x) ≤ x) (in_time : x ≤ (S.stream i).deadline) where
  pub 1≤k : 1 ≤ k
  1≤k = (in_ring declared mine).0

  pub k≤n : k ≤ S.masters
  k≤n = (in_ring declared mine).1

  abbrev lap : ℕ
  lap = turn_by h S

  abbrev to_end : Token → ℕ
  to_end = toll S h free k 1≤k k≤n

  abbrev Sound : Token → Type 0
  Sound = Sane S h free k 1≤k k≤n

  abbrev counts : ℕ → Bool
  counts = heeded S i

  -- the urgent requests that k has, and the requests that it will serve before it has none
  abbrev urgent_in : Held → ℕ
  urgent_in now = tally counts now.stack + tally counts now.waiting

  abbrev to_serve : Held → ℕ
  to_serve now = length now.stack + tally counts now.waiting

  abbrev came_in : ℕ → List Request → ℕ
  came_in s came = arrived counts S.number s came

  -- ---- A busy time that began at s

  pub record Busy (t : ℕ) (y : Token) (now : Held) (came : List Request) (s : ℕ) : Type 0 where
    pub begun : s ≤ t
    pub over : t + to_end y + to_serve now * lap ≤ s + 40 + (1 + blocked S i + came_in s came) * lap
    pub counted : came_in s came ≤ 1 + ahead_in S i x
    pub since : (p : Request) → InHeld now p → counts p.of ≡ true → s ≤ p.since

  pub record Inv (t : ℕ) (y : Token) (now : Held) (came : List Request) : Type 0 where
    pub token : Sound y
    pub busy : 1 ≤ urgent_in now → (s : ℕ) × Busy t y now came s

  -- a used visit to k takes more than its pass
  pub long : 40 < h k
  long = omega (arith, cover.used k i mine)

  -- it is over within x
  pub over_by : {t s : ℕ} {y : Token} {now : Held} {came : List Request} → 1 ≤ urgent_in now → Busy t y now came s → t + to_end y ≤ s + 40 + x
  over_by {s = s} {now = now} {came = came} some b =
      let one : 1 ≤ to_serve now = omega (arith, tally_most counts now.stack) in
      omega (arith, enough, b.over, mul-le-mul_right lap one, mul-le-mul_right lap b.counted)

  -- ---- Time passes

  pub inv_on : {t u : ℕ} {y z : Token} {now : Held} {came : List Request} → t ≤ u → u + to_end z ≤ t + to_end y → Sound z → Inv t y now came → Inv u z now came
  inv_on l d sound I = record {
    token = sound;
    busy = λ some.
        let b = I.busy some in
        (b.0, record { begun = omega (arith, b.1.begun); over = omega (arith, b.1.over); counted = b.1.counted; since = b.1.since });
  }

  pub inv_serve : {t m c j : ℕ} {now : Held} {came : List Request} (e : ℕ) → Inv t (toward m 0) now came → Belongs S m j → e + c ≤ 7 + (S.stream j).cycle
      → Inv (t + e) (serving m c) now came
  inv_serve {m = m} {j = j} e I own s =
      let most = cover.used m j own in
      inv_on (omega arith) (omega arith) (I.token.0, I.token.1, omega arith) I

  -- a visit that goes unused: not k's, where something is urgent
  none_urgent : (now : Held) → Nothing now → urgent_in now ≡ 0
  none_urgent now none = omega (arith, ap (tally counts) none.no_stack, ap (tally counts) none.none_waits, tally_none counts)

  pub inv_skip : (q : ℕ → Held) {t m d : ℕ} {came : List Request} (e : ℕ) → Inv t (toward m 0) (q k) came → Nothing (q m) → e + d ≤ 10
      → Inv (t + e) (toward (next S.masters m) d) (q k) came
  inv_skip q {t} {m} {d} {came} e I none s = go (ℕ_discrete m k)
    where
      sound : Sound (toward (next S.masters m) d)
      sound = omega (arith, next_in S h free k 1≤k k≤n I.token.1)

      go : Dec (m ≡ k) → Inv (t + e) (toward (next S.masters m) d) (q k) came
      go (yes z) = record { token = sound; busy = λ some. absurd (omega (arith, rw z at (none_urgent (q m) none))) }
      go (no z) =
          inv_on (omega arith) (omega (arith, gap_next h S.masters k 1≤k k≤n m I.token.1 z, cover.unused m I.token.0 I.token.1)) sound I

  -- ---- A completion

  served_own : {t : ℕ} {now rest : Held} {r : Request} {came : List Request} → Inv t (serving k 0) now came → Sends now r rest
      → Inv t (toward (next S.masters k) 40) rest came
  unfolding turn_by
  served_own {now = now} {rest = rest} {r = r} I p = record {
    token = omega (arith, next_in S h free k 1≤k k≤n k≤n);
    busy = λ some.
        let b = I.busy (omega (arith, same_waiting, ap (tally counts) p.sent, tally_first counts r rest.stack)) in (
          b.0,
          record {
            begun = b.1.begun;
            over = omega (arith, b.1.over, gap_lap h S.masters k 1≤k k≤n, ap (λ (n : ℕ). n * lap) fewer);
            counted = b.1.counted;
            since = λ u j. b.1.since u (send_out now rest r p u (inr j));
          },
        );
  }
    where
      same_waiting : tally counts rest.waiting ≡ tally counts now.waiting
      same_waiting = ap (tally counts) p.others

      fewer : to_serve now ≡ suc (to_serve rest)
      fewer = omega (arith, same_waiting, ap length p.sent)

  pub inv_complete : (q : ℕ → Held) {t m : ℕ} {r : Request} {rest : Held} {came : List Request} → Inv t (serving m 0) (q k) came → Sends (q m) r rest
      → Inv t (toward (next S.masters m) 40) (put q m rest k) came
  inv_complete q {t} {m} {r} {rest} {came} I p = go (ℕ_discrete m k)
    where
      go : Dec (m ≡ k) → Inv t (toward (next S.masters m) 40) (put q m rest k) came
      go (yes e) = rw (e, put_same q k rest) (served_own (rw e at I) (rw e at p))
      go (no e) =
          rw (put_other q m rest k (λ z. e (sym z)))
          (inv_on (omega arith) (omega (arith, gap_next h S.masters k 1≤k k≤n m I.token.1 e)) (omega (arith, next_in S h free k 1≤k k≤n I.token.1)) I)

  -- ---- A request is handed down

  module _ {t : ℕ} {y : Token} {now after : Held} {came : List Request} (I : Inv t y now came) (free_stack : length now.stack < 1) (down : HandsDown S (U k) now after)
      (own : (p : Request) → InHeld now p → Belongs S k p.of) where
    -- where something urgent waits, it is urgent
    handed_urgent : 1 ≤ urgent_in now → counts down.handed.of ≡ true
    handed_urgent some = go (counts down.handed.of) refl
      where
        waits : (p : Request) × Memᴰ p now.waiting × (counts p.of ≡ true)
        waits = tally_some counts now.waiting (omega (arith, tally_most counts now.stack))

        same_master : (S.stream down.handed.of).master ≡ (S.stream i).master
        same_master = (own down.handed (inr (taken_was down.out))).own ∙ sym mine.own

        go : (b : Bool) → counts down.handed.of ≡ b → b ≡ true
        go true e = refl
        go false e =
            absurd (false≢true (sym (down.picked urgent waits.0 waits.1) ∙ behind_all S i down.handed.of waits.0.of same_master e waits.2))

    inv_hand : Inv t y after came
    inv_hand = record {
      token = I.token;
      busy = λ some.
          let were : 1 ≤ urgent_in now = omega (arith, out, into, tally_behind counts now.stack down.handed) in
          let b = I.busy were in
          let as_many = same_many (handed_urgent were) in (
            b.0,
            record {
              begun = b.1.begun;
              over = omega (arith, b.1.over, ap (λ (n : ℕ). n * lap) as_many);
              counted = b.1.counted;
              since = λ u j. b.1.since u (down_in now after down u j);
            },
          );
    }
      where
        out : tally counts now.waiting ≡ when (counts down.handed.of) 1 + tally counts after.waiting
        out = tally_taken counts down.out

        into : tally counts after.stack ≡ tally counts (now.stack ++ (down.handed ∷ []))
        into = ap (tally counts) down.into

        same_many : counts down.handed.of ≡ true → to_serve after ≡ to_serve now
        same_many e = omega (arith, rw e at out, ap length down.into, length_snoc now.stack down.handed)

  pub inv_move : (q : ℕ → Held) {t m : ℕ} {y : Token} {left : Held} {came : List Request} → Inv t y (q k) came
      → (length (q m).stack < 1) × HandsDown S (U m) (q m) left → ((p : Request) → InHeld (q k) p → Belongs S k p.of) → Inv t y (put q m left k) came
  inv_move q {t} {m} {y} {left} {came} I d own = go (ℕ_discrete m k)
    where
      go : Dec (m ≡ k) → Inv t y (put q m left k) came
      go (yes e) = rw (e, put_same q k left) (inv_hand I (rw e at d.0) (rw e at d.1) own)
      go (no e) = rw (put_other q m left k (λ a. e (sym a))) I
