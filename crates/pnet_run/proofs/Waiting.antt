-- A master's queue whose requests are of different streams and will all be answered in time. Assumes nothing.
use Prim.Native.Nat.{ℕ, suc, ◌+◌, ◌*◌, ◌≤◌, zero-le}
use mathlib.Core.Path.{◌≡◌, refl, ap, sym, ◌∙◌}
use mathlib.Core.Bool.{cond}
use mathlib.Core.Logic.{◌≢◌, ⊎_elim}
use mathlib.Core.List.Memᴰ
use mathlib.Core.List.{List, [], ◌∷◌, ◌++◌, Memᴰ}
use native.Mathlib.Omega.{arith}
use lib.Dec.{eqb}
use lib.ListN.{length}
use borrow.Author.Tests.{eq-eqb, ne_eqb}
use Rattle.common.specs.Sums.{when, upto}
use Rattle.common.proofs.Sums.{upto_but_one}
use Rattle.pnet_rules.specs.Segment.{Segment, owns, count}
use Rattle.pnet_run.specs.Run.{Belongs, Request}
use Rattle.pnet_run.proofs.Charges.{owns_belongs}

-- ---- Different streams

-- no request of stream i
pub data Absent (i : ℕ) : List Request → Type 0 where
  none : Absent i []
  and : {r : Request} {l : List Request} → i ≢ r.of → Absent i l → Absent i (r ∷ l)

pub absent_if : (i : ℕ) (l : List Request) → ((r : Request) → Memᴰ r l → i ≢ r.of) → Absent i l
absent_if i [] f = none
absent_if i (r ∷ l) f = and (f r (Memᴰ.head refl)) (absent_if i l (λ s j. f s (Memᴰ.tail j)))

absent_then : {i : ℕ} {l : List Request} {r : Request} → Absent i l → Memᴰ r l → i ≢ r.of
absent_then none j = absurd (Memᴰ.not-nil j)
absent_then {i} {l} {r} (and {r = s} {l = l'} n a) j =
    ⊎_elim (λ (e : r ≡ s). λ p. n (p ∙ ap (λ (x : Request). x.of) e)) (λ (j' : Memᴰ r l'). absent_then a j') (Memᴰ.cases_cons j)

absent_snoc : {i : ℕ} {l : List Request} (r : Request) → Absent i l → i ≢ r.of → Absent i (l ++ (r ∷ []))
absent_snoc r none n = and n none
absent_snoc r (and m a) n = and m (absent_snoc r a n)

-- ---- In time

-- requests of different streams: the first is answered, and the token passed on, by the instant x at the latest, each other one a turn
-- of the token later than the one before it; and each within what is allowed to one of its arrival
pub data InTime (turn : ℕ) (allowed : ℕ → ℕ) : ℕ → List Request → Type 0 where
  none : {x : ℕ} → InTime turn allowed x []
  and : {x : ℕ} {r : Request} {l : List Request} → x ≤ r.since + allowed r.since → Absent r.of l
      → InTime turn allowed (x + turn) l → InTime turn allowed x (r ∷ l)

-- x may grow by what the allowance of each grows by
pub in_time_by : {turn : ℕ} {from to : ℕ → ℕ} {x y : ℕ} {l : List Request} (d : ℕ)
    → ((r : Request) → Memᴰ r l → from r.since + d ≤ to r.since) → y ≤ x + d → InTime turn from x l → InTime turn to y l
in_time_by d more b none = none
in_time_by {y = y} d more b (and {r = r} o a g) =
    and {x = y} {r = r} (omega (arith, more r (Memᴰ.head refl))) a (in_time_by d (λ s j. more s (Memᴰ.tail j)) (omega arith) g)

module _ {turn : ℕ} {allowed : ℕ → ℕ} where
  pub in_time_sooner : {x y : ℕ} {l : List Request} → y ≤ x → InTime turn allowed x l → InTime turn allowed y l
  in_time_sooner b g = in_time_by 0 (λ r j. omega arith) (omega arith) g

  pub in_time_rest : {x : ℕ} {r : Request} {l : List Request} → InTime turn allowed x (r ∷ l) → InTime turn allowed (x + turn) l
  in_time_rest (and o a g) = g

  pub in_time_each : {x : ℕ} {l : List Request} {r : Request} → InTime turn allowed x l → Memᴰ r l → x ≤ r.since + allowed r.since
  in_time_each none j = absurd (Memᴰ.not-nil j)
  in_time_each {x} {l} {r} (and {r = s} {l = l'} o a g) j =
      ⊎_elim (λ (e : r ≡ s). rw e o) (λ (j' : Memᴰ r l'). omega (arith, in_time_each g j')) (Memᴰ.cases_cons j)

  -- one more, behind the last
  pub in_time_snoc : (r : Request) {x : ℕ} {l : List Request} → Absent r.of l → x + length l * turn ≤ r.since + allowed r.since
      → InTime turn allowed x l → InTime turn allowed x (l ++ (r ∷ []))
  in_time_snoc r {x = x} none b none = and {x = x} {r = r} (omega arith) none none
  in_time_snoc r {x = x} (and n m) b (and o a g) = and o (absent_snoc r a (λ e. n (sym e))) (in_time_snoc r {x = x + turn} m (omega arith) g)

-- ---- As many requests as streams at most

-- f, but 0 at m
without : (ℕ → ℕ) → ℕ → ℕ → ℕ
without f m y = cond (eqb y m) 0 (f y)

without_same : (f : ℕ → ℕ) (m : ℕ) → without f m m ≡ 0
unfolding without
without_same f m = rw (eq-eqb m m refl)

without_other : (f : ℕ → ℕ) (m y : ℕ) → y ≢ m → without f m y ≡ f y
unfolding without
without_other f m y n = rw (ne_eqb y m n)

upto_without : (f : ℕ → ℕ) (n m : ℕ) → 1 ≤ m → m ≤ n → upto f n ≡ upto (without f m) n + f m
upto_without f n m a b = omega (arith, upto_but_one f (without f m) n m a b (λ y z. sym (without_other f m y z)), without_same f m)

-- where f counts each stream that is in the queue, the queue is no longer than the sum of f
fewer : {turn : ℕ} {allowed : ℕ → ℕ} {x : ℕ} {l : List Request} (f : ℕ → ℕ) (n : ℕ) → InTime turn allowed x l
    → ((r : Request) → Memᴰ r l → (1 ≤ r.of) × (r.of ≤ n) × (1 ≤ f r.of)) → length l ≤ upto f n
fewer f n none c = zero-le
fewer f n (and {r = r} o a g) c =
    let z = c r (Memᴰ.head refl) in
    omega (
      arith,
      upto_without f n r.of z.0 z.1,
      fewer (without f r.of) n g (λ s j. let w = c s (Memᴰ.tail j) in (w.0, w.1, rw (without_other f r.of s.of (λ e. absent_then a j (sym e))) w.2)),
    )

-- a queue of k's streams that lacks stream i of k is shorter than k has streams
pub room_for : {turn x : ℕ} {allowed : ℕ → ℕ} {l : List Request} (S : Segment) (k i : ℕ) → Belongs S k i → InTime turn allowed x l
    → ((r : Request) → Memᴰ r l → Belongs S k r.of) → ((r : Request) → Memᴰ r l → i ≢ r.of) → suc (length l) ≤ count S k
unfolding count
room_for S k i d g own other =
    omega (
      arith,
      upto_without f S.number i d.from_one d.to_last,
      fewer (without f i) S.number g (λ r j. let w = own r j in (w.from_one, w.to_last, rw (without_other f i r.of (λ e. other r j (sym e))) (f_one r.of w))),
      f_one i d,
    )
  where
    f : ℕ → ℕ
    f j = when (owns S k j) 1

    f_one : (j : ℕ) → Belongs S k j → 1 ≤ f j
    f_one j w = rw (owns_belongs w) (omega arith)
