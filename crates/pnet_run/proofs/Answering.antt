-- A figure is kept to where what waits is never late: if, in every run whose arrivals are of some kind, each waiting request of some streams of master k came less
-- than B ago, then each of their requests is answered within B. So it is by every discipline that loses no request and makes none up. Assumes nothing.
use Prim.Native.Nat.{ℕ, ◌+◌, ◌≤◌, ◌<◌}
use mathlib.Core.Path.{◌≡◌, sym, ◌∙◌}
use mathlib.Core.Logic.{⊎_elim}
use mathlib.Core.List.Memᴰ
use mathlib.Core.List.{List, ◌∷◌, Memᴰ}
use native.Mathlib.Omega.{arith}
use Rattle.units.specs.Units.{bp}
use Rattle.pnet_rules.specs.Segment.{Segment}
use Rattle.pnet_run.specs.Run.{
  Belongs,
  Request,
  Answer,
  answer,
  Queues,
  Token,
  serving,
  Settled,
  Discipline,
  RunBy,
  Run,
  start,
  complete,
  arrive,
  move,
  travel,
  work,
  serve,
  skip,
}
use Rattle.pnet_run.specs.Promise.{Lasts, past, at_it, Answered}
use Rattle.pnet_run.proofs.Keeping.{Keeps, owned_by, sent_kept, kept_or_answered}
use Rattle.pnet_run.proofs.Queues.{first_come_keeps}

-- a request that came at a has not waited beyond B: not at now, and less than that once the instant's completions are over
pub record NotLate (B a t : ℕ) (y : Token) : Type 0 where
  pub by_then : t ≤ a + B
  pub before : Settled y → t < a + B

-- nothing waits in a run that lasts longer
not_after : {B a t : ℕ} {y : Token} → NotLate B a t y → Lasts t y (a + B) → ⊥
not_after n (past l) = omega (arith, n.by_then)
not_after n (at_it e s) = omega (arith, n.before s)

-- `Of` are the streams
module _ {D : Discipline} (K : Keeps D) (S : Segment) (k B : ℕ) (Of : ℕ → Type 0) (its : (i : ℕ) → Of i → Belongs S k i) (Kind : List Request → Type 0)
    (earlier : (r : Request) (came : List Request) → Kind (r ∷ came) → Kind came)
    (waits : (t : ℕ) (y : Token) (q : ℕ → D.State) (came : List Request) (went : List Answer) → RunBy D S t y q came went → Kind came
    → (r : Request) → K.In (q k) r → Of r.of → NotLate B r.since t y) where
  -- what was answered waited when it was
  pub answers_in_time : {t : ℕ} {y : Token} {q : ℕ → D.State} {came : List Request} {went : List Answer} → RunBy D S t y q came went → Kind came
      → (a : Answer) → Memᴰ a went → Of a.to.of → a.at ≤ a.to.since + B
  answers_in_time (start a b c) s w j own = absurd (Memᴰ.not-nil j)
  answers_in_time (complete {t = t} {m = m} {q = q} {r = r} {rest = rest} {came = came} {went = went} z p) s w j own =
      ⊎_elim (λ (c : w ≡ answer r t). rw c (now (rw c at own))) (λ (c : Memᴰ w went). answers_in_time z s w c own) (Memᴰ.cases_cons j)
    where
      kept : K.In (q m) r
      kept = sent_kept K q m rest r p

      now : Of r.of → t ≤ r.since + B
      now o =
          let e : k ≡ m = sym (its r.of o).own ∙ (owned_by K z m r kept).own in
          (waits t (serving m 0) q came went z s r (rw e kept) o).by_then
  answers_in_time (arrive {came = came} z o d) s w j own = answers_in_time z (earlier _ came s) w j own
  answers_in_time (move z o p) s w j own = answers_in_time z s w j own
  answers_in_time (travel e z) s w j own = answers_in_time z s w j own
  answers_in_time (work e z) s w j own = answers_in_time z s w j own
  answers_in_time (serve e u v z p a b c d f g) s w j own = answers_in_time z s w j own
  answers_in_time (skip e z p a b) s w j own = answers_in_time z s w j own

  pub none_is_left : {t : ℕ} {y : Token} {q : ℕ → D.State} {came : List Request} {went : List Answer} → RunBy D S t y q came went → Kind came
      → (r : Request) → Memᴰ r came → Of r.of → Lasts t y (r.since + B) → (u : ℕ) × Memᴰ (answer r u) went
  none_is_left {t} {y} {q} {came} {went} z s r j own l =
      ⊎_elim (λ (c : K.In (q k) r). absurd (not_after (waits t y q came went z s r c own) l)) (λ (c : (u : ℕ) × Memᴰ (answer r u) went). c)
      (kept_or_answered K z k r j (its r.of own))

-- for all streams of master k, which serves the oldest first
pub answered_in_time : (S : Segment) (k B : ℕ) (Kind : List Request → Type 0) → ((r : Request) (came : List Request) → Kind (r ∷ came) → Kind came)
    → ((t : ℕ) (y : Token) (q : Queues) (came : List Request) (went : List Answer) → Run S t y q came went → Kind came
    → (r : Request) → Memᴰ r (q k) → NotLate B r.since t y)
    → {t : ℕ} {y : Token} {q : Queues} {came : List Request} {went : List Answer} → Run S t y q came went → Kind came → Answered (bp B) S k t y came went
answered_in_time S k B Kind earlier waits z s =
    record {
      in_time = answers_in_time first_come_keeps S k B (Belongs S k) (λ i b. b) Kind earlier (λ t y q came went z s r j own. waits t y q came went z s r j) z s;
      none_left = none_is_left first_come_keeps S k B (Belongs S k) (λ i b. b) Kind earlier (λ t y q came went z s r j own. waits t y q came went z s r j) z s;
    }

-- a promise about master k need be shown only where k has a stream: else it has no request
pub answered_if_it_asks : {B k t : ℕ} {S : Segment} {y : Token} {came : List Request} {went : List Answer}
    → ((i : ℕ) → Belongs S k i → Answered (bp B) S k t y came went) → Answered (bp B) S k t y came went
answered_if_it_asks by = record {
  in_time = λ a j own. (by a.to.of own).in_time a j own;
  none_left = λ r j own lasts. (by r.of own).none_left r j own lasts;
}
