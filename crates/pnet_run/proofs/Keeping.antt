-- What holds of the runs by any discipline that loses no request and makes none up: what a master keeps are requests of its own streams that have come, and what
-- has come is kept or was answered. Assumes nothing.
use Prim.Native.Nat.{ℕ, ◌≤◌}
use mathlib.Core.Path.{◌≡◌, refl, sym, ◌∙◌}
use mathlib.Core.Logic.{◌≢◌, ◌⊎◌, inl, inr, ⊎_elim, ◌↔◌}
use mathlib.Core.List.Memᴰ
use mathlib.Core.List.{List, Memᴰ}
use native.Mathlib.Decide.{ℕ_discrete}
use native.Mathlib.Omega.{arith}
use borrow.Author.Tests.{eq-eqb, ne_eqb}
use Rattle.pnet_rules.specs.Segment.{Segment}
use Rattle.pnet_run.specs.Run.{
  Belongs,
  Request,
  request,
  Answer,
  answer,
  put,
  Token,
  Discipline,
  RunBy,
  start,
  complete,
  arrive,
  move,
  travel,
  work,
  serve,
  skip,
}

-- ---- What a master keeps after a step

pub put_same : {A : Type 0} (q : ℕ → A) (m : ℕ) (l : A) → put q m l m ≡ l
unfolding put
put_same q m l = rw (eq-eqb m m refl)

pub put_other : {A : Type 0} (q : ℕ → A) (m : ℕ) (l : A) (y : ℕ) → y ≢ m → put q m l y ≡ q y
unfolding put
put_other q m l y n = rw (ne_eqb y m n)

-- before and after are related at each master, if they are at the one whose changed
pub put_relates : {A : Type 0} (R : ℕ → A → A → Type 0) (q : ℕ → A) (m : ℕ) (l : A) → R m (q m) l → ((y : ℕ) (a : A) → R y a a) → (y : ℕ) → R y (q y) (put q m l y)
put_relates R q m l changed same y = go (ℕ_discrete y m)
  where
    go : Dec (y ≡ m) → R y (q y) (put q m l y)
    go (yes e) = rw (e, put_same q m l) changed
    go (no n) = rw (put_other q m l y n) (same y (q y))

-- ---- A discipline that loses none and makes none up

pub record Keeps (D : Discipline) : Type 1 where
  -- p is kept in s
  pub In : D.State → Request → Type 0
  pub none : (p : Request) → In D.empty p → ⊥
  pub joins : (s : D.State) (r p : Request) → In (D.joined s r) p ↔ ((p ≡ r) ⊎ In s p)
  pub moves : (m : ℕ) (y : Token) (s left : D.State) → D.Moves m y s left → (p : Request) → In left p ↔ In s p
  pub serves : (s rest : D.State) (r : Request) → D.Serves s r rest → (p : Request) → In s p ↔ ((p ≡ r) ⊎ In rest p)

-- ---- Nothing comes from later than now

pub came_past : {D : Discipline} {S : Segment} {t : ℕ} {y : Token} {q : ℕ → D.State} {came : List Request} {went : List Answer} → RunBy D S t y q came went
    → (r : Request) → Memᴰ r came → r.since ≤ t
came_past (start a b c) r j = absurd (Memᴰ.not-nil j)
came_past (complete z p) r j = came_past z r j
came_past (arrive {t = t} {i = i} {came = came} z o d) r j =
    ⊎_elim (λ (c : r ≡ request i t). rw c (omega arith)) (λ (c : Memᴰ r came). came_past z r c) (Memᴰ.cases_cons j)
came_past (move z o p) r j = came_past z r j
came_past (travel e z) r j = omega (arith, came_past z r j)
came_past (work e z) r j = omega (arith, came_past z r j)
came_past (serve e x c z p a b d f g o) r j = omega (arith, came_past z r j)
came_past (skip e z p a b) r j = omega (arith, came_past z r j)

module _ {D : Discipline} (K : Keeps D) where
  pub joined_cases : (q : ℕ → D.State) (m y : ℕ) (r p : Request) → K.In (put q m (D.joined (q m) r) y) p → ((y ≡ m) × (p ≡ r)) ⊎ K.In (q y) p
  joined_cases q m y r p j = go (ℕ_discrete y m)
    where
      go : Dec (y ≡ m) → ((y ≡ m) × (p ≡ r)) ⊎ K.In (q y) p
      go (yes e) =
          ⊎_elim (λ (c : p ≡ r). inl (e, c)) (λ (c : K.In (q m) p). inr (rw e c))
          ((K.joins (q m) r p).0 (rw (e, put_same q m (D.joined (q m) r)) at j))
      go (no n) = inr (rw (put_other q m (D.joined (q m) r) y n) at j)

  pub joined_new : (q : ℕ → D.State) (m : ℕ) (r : Request) → K.In (put q m (D.joined (q m) r) m) r
  joined_new q m r = rw (put_same q m (D.joined (q m) r)) ((K.joins (q m) r r).1 (inl refl))

  pub joined_still : (q : ℕ → D.State) (m y : ℕ) (r p : Request) → K.In (q y) p → K.In (put q m (D.joined (q m) r) y) p
  joined_still q m y r p = put_relates (λ z a b. K.In a p → K.In b p) q m (D.joined (q m) r) (λ i. (K.joins (q m) r p).1 (inr i)) (λ z a i. i) y

  pub rest_kept : (q : ℕ → D.State) (m y : ℕ) (rest : D.State) (r p : Request) → D.Serves (q m) r rest → K.In (put q m rest y) p → K.In (q y) p
  rest_kept q m y rest r p s = put_relates (λ z a b. K.In b p → K.In a p) q m rest (λ i. (K.serves (q m) rest r s p).1 (inr i)) (λ z a i. i) y

  -- what was kept is kept when a request is answered, unless it is that one
  pub rest_still : (q : ℕ → D.State) (m y : ℕ) (rest : D.State) (r p : Request) → D.Serves (q m) r rest → K.In (q y) p → (p ≡ r) ⊎ K.In (put q m rest y) p
  rest_still q m y rest r p s = put_relates (λ z a b. K.In a p → (p ≡ r) ⊎ K.In b p) q m rest (λ i. (K.serves (q m) rest r s p).0 i) (λ z a i. inr i) y

  -- the one that is sent was kept
  pub sent_kept : (q : ℕ → D.State) (m : ℕ) (rest : D.State) (r : Request) → D.Serves (q m) r rest → K.In (q m) r
  sent_kept q m rest r s = (K.serves (q m) rest r s r).1 (inl refl)

  -- ---- Whose requests a master keeps

  pub owned_by : {S : Segment} {t : ℕ} {y : Token} {q : ℕ → D.State} {came : List Request} {went : List Answer} → RunBy D S t y q came went
      → (m : ℕ) (r : Request) → K.In (q m) r → Belongs S m r.of
  owned_by (start a b c) m r j = absurd (K.none r j)
  owned_by (complete {m = o} {q = q} {r = s} {rest = rest} z p) m r j = owned_by z m r (rest_kept q o m rest s r p j)
  owned_by (arrive {t = t} {m = o} {i = i} {q = q} z s d) m r j =
      ⊎_elim (λ (c : (m ≡ o) × (r ≡ request i t)). rw (c.0, c.1) d) (λ (c : K.In (q m) r). owned_by z m r c) (joined_cases q o m (request i t) r j)
  owned_by (move {m = o} {y = y} {q = q} {left = left} z s p) m r j =
      owned_by z m r (put_relates (λ w a b. K.In b r → K.In a r) q o left (λ i. (K.moves o y (q o) left p r).0 i) (λ w a i. i) m j)
  owned_by (travel e z) m r j = owned_by z m r j
  owned_by (work e z) m r j = owned_by z m r j
  owned_by (serve e x c z p a b d f g o) m r j = owned_by z m r j
  owned_by (skip e z p a b) m r j = owned_by z m r j

  pub kept_came : {S : Segment} {t : ℕ} {y : Token} {q : ℕ → D.State} {came : List Request} {went : List Answer} → RunBy D S t y q came went
      → (m : ℕ) (r : Request) → K.In (q m) r → Memᴰ r came
  kept_came (start a b c) m r j = absurd (K.none r j)
  kept_came (complete {m = o} {q = q} {r = s} {rest = rest} z p) m r j = kept_came z m r (rest_kept q o m rest s r p j)
  kept_came (arrive {t = t} {m = o} {i = i} {q = q} z s d) m r j =
      ⊎_elim (λ (c : (m ≡ o) × (r ≡ request i t)). Memᴰ.head c.1) (λ (c : K.In (q m) r). Memᴰ.tail (kept_came z m r c))
      (joined_cases q o m (request i t) r j)
  kept_came (move {m = o} {y = y} {q = q} {left = left} z s p) m r j =
      kept_came z m r (put_relates (λ w a b. K.In b r → K.In a r) q o left (λ i. (K.moves o y (q o) left p r).0 i) (λ w a i. i) m j)
  kept_came (travel e z) m r j = kept_came z m r j
  kept_came (work e z) m r j = kept_came z m r j
  kept_came (serve e x c z p a b d f g o) m r j = kept_came z m r j
  kept_came (skip e z p a b) m r j = kept_came z m r j

  -- ---- What was answered

  pub answered_own : {S : Segment} {t : ℕ} {y : Token} {q : ℕ → D.State} {came : List Request} {went : List Answer} → RunBy D S t y q came went
      → (a : Answer) → Memᴰ a went → (m : ℕ) × Belongs S m a.to.of
  answered_own (start a b c) w j = absurd (Memᴰ.not-nil j)
  answered_own (complete {t = t} {m = m} {q = q} {r = r} {rest = rest} {went = went} z p) w j =
      ⊎_elim (λ (c : w ≡ answer r t). (m, rw c (owned_by z m r (sent_kept q m rest r p)))) (λ (c : Memᴰ w went). answered_own z w c) (Memᴰ.cases_cons j)
  answered_own (arrive z o d) w j = answered_own z w j
  answered_own (move z o p) w j = answered_own z w j
  answered_own (travel e z) w j = answered_own z w j
  answered_own (work e z) w j = answered_own z w j
  answered_own (serve e x c z p a b d f g o) w j = answered_own z w j
  answered_own (skip e z p a b) w j = answered_own z w j

  -- ---- Nothing is lost

  pub kept_or_answered : {S : Segment} {t : ℕ} {y : Token} {q : ℕ → D.State} {came : List Request} {went : List Answer} → RunBy D S t y q came went
      → (m : ℕ) (r : Request) → Memᴰ r came → Belongs S m r.of → K.In (q m) r ⊎ ((u : ℕ) × Memᴰ (answer r u) went)
  kept_or_answered (start a b c) m r j w = absurd (Memᴰ.not-nil j)
  kept_or_answered (complete {t = t} {m = o} {q = q} {r = s} {rest = rest} {went = went} z p) m r j w =
      ⊎_elim
      (λ (c : K.In (q m) r).
      ⊎_elim (λ (e : r ≡ s). inr (t, Memᴰ.head (rw e))) (λ (i : K.In (put q o rest m) r). inl i) (rest_still q o m rest s r p c))
      (λ (c : (u : ℕ) × Memᴰ (answer r u) went). inr (c.0, Memᴰ.tail c.1))
      (kept_or_answered z m r j w)
  kept_or_answered (arrive {t = t} {m = o} {i = i} {q = q} {came = came} {went = went} z s d) m r j w =
      ⊎_elim
      (λ (c : r ≡ request i t). let e : o ≡ m = sym d.own ∙ rw c at w.own in inl (rw (c, e) (joined_new q m (request i t))))
      (λ (c : Memᴰ r came).
      ⊎_elim (λ (k : K.In (q m) r). inl (joined_still q o m (request i t) r k)) (λ (k : (u : ℕ) × Memᴰ (answer r u) went). inr k) (kept_or_answered z m r c w))
      (Memᴰ.cases_cons j)
  kept_or_answered (move {m = o} {y = y} {q = q} {left = left} {went = went} z s p) m r j w =
      ⊎_elim
      (λ (c : K.In (q m) r). inl (put_relates (λ w a b. K.In a r → K.In b r) q o left (λ i. (K.moves o y (q o) left p r).1 i) (λ w a i. i) m c))
      (λ (c : (u : ℕ) × Memᴰ (answer r u) went). inr c)
      (kept_or_answered z m r j w)
  kept_or_answered (travel e z) m r j w = kept_or_answered z m r j w
  kept_or_answered (work e z) m r j w = kept_or_answered z m r j w
  kept_or_answered (serve e x c z p a b d f g o) m r j w = kept_or_answered z m r j w
  kept_or_answered (skip e z p a b) m r j w = kept_or_answered z m r j w
