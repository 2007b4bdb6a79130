-- The slowest runs: one request of every stream, all at the instant 0, in sheet order; and each reaction and message as long as can
-- be. Assumes nothing.
use Prim.Native.Nat.{ℕ, zero, suc, ◌+◌, ◌≤◌}
use mathlib.Core.Path.{◌≡◌, refl, sym, subst, fun_ext}
use mathlib.Core.Logic.{⊎_elim}
use mathlib.Core.List.Memᴰ
use mathlib.Core.List.{
  List,
  [],
  ◌∷◌,
  ◌++◌,
  map,
  map-append,
  Memᴰ,
}
use native.Mathlib.Nat.{le_refl}
use native.Mathlib.Decide.{ℕ_discrete}
use native.Mathlib.Omega.{arith}
use borrow.Author.Tests.{eq-eqb, ne_eqb}
use Rattle.pnet_rules.specs.Segment.{Segment, owns}
use Rattle.pnet_run.specs.Run.{Request, request, Answer, answer, Queues, put, join, Token, toward, Settled, on_way, next, Discipline, RunBy, Run, start, complete, arrive, serve}
use Rattle.pnet_run.specs.Promise.{Apart, none, and, Spaced}
use Rattle.pnet_run.proofs.Keeping.{put_same, put_other}
use Rattle.pnet_run.proofs.Picked.{picked}
use Rattle.pnet_run.proofs.Spacing.{apart_spaced}

-- ---- Every stream has asked once, at 0

abbrev pub asked : ℕ → Request
asked i = request i 0

-- each master's queue when streams 1..n have asked, and all that have
abbrev pub queues_to : Segment → ℕ → Queues
queues_to S n y = map asked (picked (owns S y) n)

unfoldable pub asked_to : ℕ → List Request
asked_to zero = []
asked_to (suc n) = asked (suc n) ∷ asked_to n

-- one more
queues_to_more : (S : Segment) (n : ℕ) → join (queues_to S n) (S.stream (suc n)).master (asked (suc n)) ≡ queues_to S (suc n)
unfolding picked owns
queues_to_more S n = fun_ext λ y. at y (ℕ_discrete y m)
  where
    m : ℕ
    m = (S.stream (suc n)).master

    same : join (queues_to S n) m (asked (suc n)) m ≡ queues_to S (suc n) m
    same = rw (put_same (queues_to S n) m (queues_to S n m ++ (asked (suc n) ∷ [])), eq-eqb m m refl) (sym (map-append asked (picked (owns S m) n) (suc n ∷ [])))

    at : (y : ℕ) → Dec (y ≡ m) → join (queues_to S n) m (asked (suc n)) y ≡ queues_to S (suc n) y
    at y (yes e) = subst (λ (x : ℕ). join (queues_to S n) m (asked (suc n)) x ≡ queues_to S (suc n) x) (sym e) same
    at y (no z) = rw (put_other (queues_to S n) m (queues_to S n m ++ (asked (suc n) ∷ [])) y z, ne_eqb m y (λ e. z (sym e)))

asked_more : {S : Segment} {n : ℕ} {y : Token} → Settled y → suc n ≤ S.number → Run S 0 y (queues_to S n) (asked_to n) []
    → Run S 0 y (queues_to S (suc n)) (asked_to (suc n)) []
unfolding asked_to
asked_more {S} {n} {y} s l z =
    subst (λ (q : Queues). Run S 0 y q (asked (suc n) ∷ asked_to n) []) (queues_to_more S n) (arrive z s (record { from_one = omega arith; to_last = l; own = omega arith }))

asked_upto : (S : Segment) {m d : ℕ} → 1 ≤ m → m ≤ S.masters → d ≤ 40 → (n : ℕ) → n ≤ S.number → Run S 0 (toward m d) (queues_to S n) (asked_to n) []
unfolding picked asked_to
asked_upto S {d = d} a b c zero l = start {d = d} a b (omega arith)
asked_upto S {d = d} a b c (suc n) l = asked_more on_way l (asked_upto S a b c n (omega arith))

-- the token being anywhere a run can start
pub all_asked : (S : Segment) {m d : ℕ} → 1 ≤ m → m ≤ S.masters → d ≤ 40 → Run S 0 (toward m d) (queues_to S S.number) (asked_to S.number) []
all_asked S a b c = asked_upto S a b c S.number (le_refl S.number)

-- ---- Each is there, and its spacing is kept

pub asked_each : (n i : ℕ) → 1 ≤ i → i ≤ n → Memᴰ (asked i) (asked_to n)
unfolding asked_to
asked_each zero i a b = absurd (omega arith)
asked_each (suc n) i a b = go (ℕ_discrete i (suc n)) (asked_each n i a)
  where
    go : Dec (i ≡ suc n) → (i ≤ n → Memᴰ (asked i) (asked_to n)) → Memᴰ (asked i) (asked (suc n) ∷ asked_to n)
    go (yes e) ih = rw e (Memᴰ.head refl)
    go (no z) ih = Memᴰ.tail (ih (omega (arith, z)))

asked_in : (n : ℕ) (r : Request) → Memᴰ r (asked_to n) → r.of ≤ n
unfolding asked_to
asked_in zero r j = absurd (Memᴰ.not-nil j)
asked_in (suc n) r j = ⊎_elim (λ (e : r ≡ asked (suc n)). rw e (le_refl (suc n))) (λ (c : Memᴰ r (asked_to n)). omega (arith, asked_in n r c)) (Memᴰ.cases_cons j)

pub asked_at_0 : (n : ℕ) (r : Request) → Memᴰ r (asked_to n) → r.since ≡ 0
unfolding asked_to
asked_at_0 zero r j = absurd (Memᴰ.not-nil j)
asked_at_0 (suc n) r j = ⊎_elim (λ (e : r ≡ asked (suc n)). rw e refl) (λ (c : Memᴰ r (asked_to n)). asked_at_0 n r c) (Memᴰ.cases_cons j)

pub asked_apart : (d i n : ℕ) → Apart d i (asked_to n)
unfolding asked_to
asked_apart d i zero = none
asked_apart d i (suc n) = and {r = asked (suc n)} (λ e a (j : Memᴰ (request i a) (asked_to n)). absurd (omega (arith, asked_in n (request i a) j))) (asked_apart d i n)

pub asked_spaced : (S : Segment) (k : ℕ) → Spaced S k (asked_to S.number)
asked_spaced S k = apart_spaced {S = S} (λ i d. asked_apart (S.stream i).spacing i S.number)

-- ---- The longest service

-- by any discipline
pub slowest : {D : Discipline} {S : Segment} {t m : ℕ} {q : ℕ → D.State} {r : Request} {rest : D.State} {came : List Request} {went : List Answer}
    → RunBy D S t (toward m 0) q came went → D.Serves (q m) r rest → 1 ≤ (S.stream r.of).cycle
    → RunBy D S (t + (7 + (S.stream r.of).cycle)) (toward (next S.masters m) 40) (put q m rest) came (answer r (t + (7 + (S.stream r.of).cycle)) ∷ went)
slowest {S} {r = r} z p some =
    let C = (S.stream r.of).cycle in
    complete (serve {c = 0} (7 + C) 7 C z p (omega arith) (omega arith) (omega arith) (omega arith) (omega arith) (omega arith)) p
