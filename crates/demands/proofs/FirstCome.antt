-- What a capture needs of page 01's runs, which serve the oldest first: how many requests of a stream wait, and that none waits longer than its master's bound. Assumes nothing.
use Prim.Native.Nat.{ℕ, ◌+◌, ◌-◌, ◌≤◌}
use mathlib.Core.Path.{◌≡◌, refl, sym, ap}
use mathlib.Core.Bool.{Bool, true, false}
use mathlib.Core.Logic.{⊎_elim}
use mathlib.Core.List.Memᴰ
use mathlib.Core.List.{List, [], ◌∷◌, ◌++◌, Memᴰ}
use native.Mathlib.Omega.{arith}
use lib.Dec.{eqb}
use borrow.Author.Tests.{eq-eqb, eqb-true}
use Rattle.common.specs.Sums.{when}
use Rattle.pnet_rules.specs.Segment.{Segment, charged, bound_by, bound}
use Rattle.pnet_run.specs.Run.{Belongs, Request, Answer, Queues, Token, first_come, Run}
use Rattle.pnet_run.specs.Promise.{Spaced, Accepted}
use Rattle.pnet_run.proofs.Charges.{in_ring}
use Rattle.pnet_run.proofs.Charged.{charged_covers_visits}
use Rattle.pnet_run.proofs.Queues.{first_come_keeps}
use Rattle.pnet_run.proofs.Answering.{NotLate}
use Rattle.pnet_run.proofs.EveryRun.{waits_in_time}
use Rattle.pnet_run.proofs.Spacing.{spaced_before}
use Rattle.pnet_run.proofs.Arrivals.{spaced_apart}
use Rattle.demands.proofs.Matching.{Counts, Punctual, punctual_if, AllSpaced}

-- ---- How many requests of stream i are in a list

unfoldable pub many_of : ℕ → List Request → ℕ
many_of i [] = 0
many_of i (r ∷ l) = when (eqb r.of i) 1 + many_of i l

pub many_of_none : (i : ℕ) → many_of i [] ≡ 0
unfolding many_of
many_of_none i = refl

pub many_of_behind : (i : ℕ) (l : List Request) (r : Request) → many_of i (l ++ (r ∷ [])) ≡ when (eqb r.of i) 1 + many_of i l
unfolding many_of
many_of_behind i [] r = refl
many_of_behind i (s ∷ l) r = omega (arith, many_of_behind i l r)

pub many_of_first : (i : ℕ) (l : List Request) (r : Request) (rest : List Request) → l ≡ r ∷ rest → many_of i l ≡ when (eqb r.of i) 1 + many_of i rest
unfolding many_of
many_of_first i l r rest e = rw e

pub many_of_in : (l : List Request) (p : Request) → Memᴰ p l → 1 ≤ many_of p.of l
unfolding many_of
many_of_in [] p j = absurd (Memᴰ.not-nil j)
many_of_in (r ∷ l) p j =
    ⊎_elim (λ (c : p ≡ r). rw (eq-eqb r.of p.of (sym (ap (λ (s : Request). s.of) c))) (omega arith)) (λ (c : Memᴰ p l). omega (arith, many_of_in l p c))
    (Memᴰ.cases_cons j)

pub many_of_some : (i : ℕ) (l : List Request) → 1 ≤ many_of i l → (p : Request) × Memᴰ p l × (i ≡ p.of)
unfolding many_of
many_of_some i [] l = absurd (omega arith)
many_of_some i (r ∷ rest) l = by (eqb r.of i) refl l (λ s. many_of_some i rest s)
  where
    by : (b : Bool) → eqb r.of i ≡ b → 1 ≤ when b 1 + many_of i rest → (1 ≤ many_of i rest → (p : Request) × Memᴰ p rest × (i ≡ p.of))
        → (p : Request) × Memᴰ p (r ∷ rest) × (i ≡ p.of)
    by true e s f = (r, Memᴰ.head refl, sym (eqb-true r.of i e))
    by false e s f = let p = f (omega arith) in (p.0, Memᴰ.tail p.1, p.2)

abbrev pub first_come_counts : Counts first_come first_come_keeps
first_come_counts = record {
  many = λ l i. many_of i l;
  none = many_of_none;
  joins = λ l r i. many_of_behind i l r;
  moves = λ m y l left never i. absurd never;
  serves = λ l rest r e i. many_of_first i l r rest e;
  counted = many_of_in;
  some = λ l i. many_of_some i l;
}

-- ---- None waits longer than the bound

module _ {S : Segment} (accepted : Accepted S) {k i : ℕ} (own : Belongs S k i) where
  -- how far apart the requests of a stream are at least
  abbrev far : ℕ → ℕ
  far j = (S.stream j).spacing - (S.stream j).jitter

  fits : (j : ℕ) → Belongs S k j → bound_by (charged S) S k ≤ far j
  unfolding bound
  fits j b = omega (arith, (accepted.declared.ranges j b.from_one b.to_last).deadline_to, accepted.passes k j b)

  pub not_late : {t : ℕ} {y : Token} {q : Queues} {came : List Request} {went : List Answer} → Run S t y q came went → Spaced S k came
      → (r : Request) → Memᴰ r (q k) → NotLate (bound S k) r.since t y
  unfolding bound
  not_late run spaced =
      let ring = in_ring accepted.declared own in
      waits_in_time S (charged S) k ring.0 ring.1 (charged_covers_visits accepted.declared) far fits run (spaced_apart accepted.declared run spaced)

  pub punctual : Punctual first_come first_come_keeps S k i (bound S k) (Spaced S k)
  unfolding bound
  punctual =
      let range = accepted.declared.ranges i own.from_one own.to_last in
      record {
        own = own;
        short = range.jitter_to;
        fits = fits i own;
        small = omega (arith, fits i own, range.spacing_to);
        keeps = λ came spaced. spaced i own;
        earlier = λ r came. spaced_before;
        waits = λ t y q came went run spaced r j e. not_late run spaced r j;
      }

  -- the same, where every master keeps its spacing
  pub punctual_among_all : Punctual first_come first_come_keeps S k i (bound S k) (AllSpaced S)
  punctual_among_all = punctual_if (λ came spaced. spaced k) (λ r came spaced y. spaced_before (spaced y)) punctual

pub each_punctual : {S : Segment} → Accepted S → (m i : ℕ) → Belongs S m i → Punctual first_come first_come_keeps S m i (bound S (S.stream i).master) (AllSpaced S)
each_punctual accepted m i own = rw own.own (punctual_among_all accepted own)
