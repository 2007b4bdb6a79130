-- What it is to keep a spacing. In a run, a stream that keeps T with jitter J has its arrivals at least T - J apart; where J is 0, to keep the
-- spacing is to have them T apart, no more and no less (Arrivals). A stream that asks every d bp, each time up to J late, keeps the spacing d with
-- jitter J. So `Kept` asks for no more than the page's words; that it asks for no less is what the bound rests on. Assumes nothing.
use Prim.Native.Nat.{ℕ, zero, suc, ◌+◌, ◌-◌, ◌*◌, ◌≤◌, ◌<◌}
use mathlib.Core.Path.{◌≡◌, refl, ap, sym}
use mathlib.Core.Logic.{inl, inr, ⊎_elim}
use mathlib.Core.List.{
  List,
  [],
  ◌∷◌,
  map,
  Memᴰ,
}
use native.Mathlib.Nat.{suc-mul}
use native.Mathlib.Decide.{ℕ_discrete}
use native.Mathlib.Omega.{arith}
use Rattle.pnet_rules.specs.Segment.{Segment}
use Rattle.pnet_run.specs.Run.{Belongs, Request, request, Answer, Token, Discipline, RunBy, start, complete, arrive, move, travel, work, serve, skip}
use Rattle.pnet_run.specs.Promise.{Kept, quiet, other, asks, Spaced, Apart, none, and}
use Rattle.pnet_run.proofs.Keeping.{came_past}

-- ---- Each request and the instant J behind its nominal time

-- each request has one
pub due_of : {T J i : ℕ} {came : List Request} {due : List ℕ} → Kept T J i came due → (a : ℕ) → Memᴰ (request i a) came
    → (v : ℕ) × Memᴰ v due × (a ≤ v) × (v ≤ a + J)
due_of quiet a j = absurd (mathlib.Core.List.Memᴰ.not-nil j)
due_of {i = i} (other {r = r} {came = came} n kept) a j =
    ⊎_elim (λ (e : request i a ≡ r). absurd (n (ap (λ (s : Request). s.of) (sym e)))) (λ (c : Memᴰ (request i a) came). due_of kept a c) (mathlib.Core.List.Memᴰ.cases_cons j)
due_of {J = J} {i = i} (asks {r = r} {came = came} {due = due} u own from to far kept) a j =
    ⊎_elim (λ (e : request i a ≡ r). let s = ap (λ (p : Request). p.since) e in (u, mathlib.Core.List.Memᴰ.head refl, omega arith, omega arith))
    (λ (c : Memᴰ (request i a) came). let d = due_of kept a c in (d.0, mathlib.Core.List.Memᴰ.tail d.1, d.2, d.3)) (mathlib.Core.List.Memᴰ.cases_cons j)

-- and each of them is a request's
pub came_of : {T J i : ℕ} {came : List Request} {due : List ℕ} → Kept T J i came due → (v : ℕ) → Memᴰ v due
    → (a : ℕ) × Memᴰ (request i a) came × (a ≤ v) × (v ≤ a + J)
came_of quiet v j = absurd (mathlib.Core.List.Memᴰ.not-nil j)
came_of (other n kept) v j = let d = came_of kept v j in (d.0, mathlib.Core.List.Memᴰ.tail d.1, d.2, d.3)
came_of {i = i} (asks {r = r} {due = due} u own from to far kept) v j =
    ⊎_elim (λ (e : v ≡ u). (r.since, mathlib.Core.List.Memᴰ.head (rw (← own)), omega arith, omega arith))
    (λ (c : Memᴰ v due). let d = came_of kept v c in (d.0, mathlib.Core.List.Memᴰ.tail d.1, d.2, d.3)) (mathlib.Core.List.Memᴰ.cases_cons j)

-- no two requests of a stream share a nominal time
pub a_nominal_time_of_its_own : {T J i u : ℕ} {came : List Request} {due : List ℕ} → 1 ≤ T → Kept T J i came (u ∷ due) → Memᴰ u due → ⊥
a_nominal_time_of_its_own some (other n kept) j = a_nominal_time_of_its_own some kept j
a_nominal_time_of_its_own some (asks u own from to far kept) j = ⊎_elim (λ l. omega arith) (λ l. omega arith) (far u j)

-- what was kept before the latest request
pub kept_before : {T J i : ℕ} {r : Request} {came : List Request} {due : List ℕ} → Kept T J i (r ∷ came) due → (earlier : List ℕ) × Kept T J i came earlier
kept_before (other {due = due} n kept) = (due, kept)
kept_before (asks {due = due} u own from to far kept) = (due, kept)

pub spaced_before : {S : Segment} {k : ℕ} {r : Request} {came : List Request} → Spaced S k (r ∷ came) → Spaced S k came
spaced_before spaced i b = kept_before (spaced i b).1

-- a smaller spacing and a greater jitter ask for less
pub kept_loosely : {T J U K i : ℕ} {came : List Request} {due : List ℕ} → U ≤ T → J ≤ K → Kept T J i came due → Kept U K i came due
kept_loosely l m quiet = quiet
kept_loosely l m (other n kept) = other n (kept_loosely l m kept)
kept_loosely l m (asks u own from to far kept) =
    asks u own from (omega arith)
    (λ v j. ⊎_elim (λ x. inl (omega arith)) (λ x. inr (omega arith)) (far v j))
    (kept_loosely l m kept)

-- ---- The order of arrivals in a run

-- the latest is first; several may have come at one instant
pub data InOrder : List Request → Type 0 where
  nothing : InOrder []
  later : {r : Request} {came : List Request} → ((s : Request) → Memᴰ s came → s.since ≤ r.since) → InOrder came → InOrder (r ∷ came)

pub came_in_order : {D : Discipline} {S : Segment} {t : ℕ} {y : Token} {q : ℕ → D.State} {came : List Request} {went : List Answer}
    → RunBy D S t y q came went → InOrder came
came_in_order (start a b c) = nothing
came_in_order (complete z p) = came_in_order z
came_in_order (arrive z o d) = later (came_past z) (came_in_order z)
came_in_order (move z o p) = came_in_order z
came_in_order (travel e z) = came_in_order z
came_in_order (work e z) = came_in_order z
came_in_order (serve e x c z p a b d f g o) = came_in_order z
came_in_order (skip e z p a b) = came_in_order z

-- nominal times come in the order of the arrivals, since J is below T
due_in_order : {T J i u : ℕ} {r : Request} {came : List Request} {due : List ℕ} → J < T → InOrder (r ∷ came) → r.of ≡ i → Kept T J i (r ∷ came) (u ∷ due)
    → (v : ℕ) → Memᴰ v due → v + T ≤ u
due_in_order short (later o order) e (other n kept) v j = absurd (n e)
due_in_order {i = i} short (later o order) e (asks u own from to far kept) v j =
    let a = came_of kept v j in
    ⊎_elim (λ l. omega (arith, o (request i a.0) a.1, a.3)) (λ l. omega arith) (far v j)

-- ---- With jitter the arrivals are T - J apart

pub kept_apart : {T J i : ℕ} {came : List Request} {due : List ℕ} → J < T → InOrder came → Kept T J i came due → Apart (T - J) i came
kept_apart short order quiet = none
kept_apart short (later o order) (other n kept) = and (λ e a j. absurd (n e)) (kept_apart short order kept)
kept_apart short (later o order) (asks {r = r} u own from to far kept) =
    and {r = r}
    (λ e a j. let v = due_of kept a j in omega (arith, v.2, due_in_order short (later o order) own (asks {r = r} u own from to far kept) v.0 v.1))
    (kept_apart short order kept)

-- the instants J behind the nominal times are T apart
pub due_apart : {T J i : ℕ} {came : List Request} {due : List ℕ} → J < T → InOrder came → Kept T J i came due → Apart T i (map (request i) due)
due_apart short order quiet = none
due_apart short (later o order) (other n kept) = due_apart short order kept
due_apart {T} {i = i} short (later o order) (asks {r = r} {due = due} u own from to far kept) =
    and {r = request i u} (λ e a j. at a (mathlib.Core.List.Memᴰ.of_map (request i) due j)) (due_apart short order kept)
  where
    at : (a : ℕ) → (v : ℕ) × Memᴰ v due × (request i v ≡ request i a) → a + T ≤ u
    at a v =
        omega (
          arith,
          due_in_order short (later o order) own (asks {r = r} u own from to far kept) v.0 v.1,
          ap (λ (s : Request). s.since) v.2,
        )

-- ---- Without jitter

-- arrivals T apart keep the spacing: each is its own nominal time
on_time : {T i : ℕ} {came : List Request} → Apart T i came → (due : List ℕ) × Kept T 0 i came due
on_time none = ([], quiet)
on_time {T} {i} (and {r = r} {came = came} far apart) = go (ℕ_discrete r.of i) (on_time apart)
  where
    go : Dec (r.of ≡ i) → (due : List ℕ) × Kept T 0 i came due → (due : List ℕ) × Kept T 0 i (r ∷ came) due
    go (yes e) before = (
      r.since ∷ before.0,
      asks {r = r} r.since e (omega arith) (omega arith) (λ v j. let a = came_of before.1 v j in inr (omega (arith, a.3, far e a.0 a.1))) before.1,
    )
    go (no e) before = (before.0, other e before.1)

-- with any jitter, since none has to be used
pub apart_kept : {T i : ℕ} {came : List Request} (J : ℕ) → Apart T i came → (due : List ℕ) × Kept T J i came due
apart_kept J apart = let d = on_time apart in (d.0, kept_loosely (omega arith) (omega arith) d.1)

-- so it is for each stream of a master
pub apart_spaced : {S : Segment} {k : ℕ} {came : List Request} → ((i : ℕ) → Belongs S k i → Apart (S.stream i).spacing i came) → Spaced S k came
apart_spaced {S} apart i b = apart_kept (S.stream i).jitter (apart i b)

-- ---- A stream that asks every d bp

-- n requests of stream i, d bp from each nominal time to the next, the first nominal time at 0; request m comes `late m` behind its own
unfoldable pub every : (ℕ → ℕ) → ℕ → ℕ → ℕ → List Request
every late d i zero = []
every late d i (suc n) = request i (n * d + late n) ∷ every late d i n

-- the instants J behind the nominal times
unfoldable pub nominals : ℕ → ℕ → ℕ → List ℕ
nominals most d zero = []
nominals most d (suc n) = (n * d + most) ∷ nominals most d n

in_nominals : (J d n v : ℕ) → Memᴰ v (nominals J d n) → v + d ≤ n * d + J
unfolding nominals
in_nominals J d zero v j = absurd (mathlib.Core.List.Memᴰ.not-nil j)
in_nominals J d (suc n) v j =
    ⊎_elim (λ (e : v ≡ n * d + J). omega (arith, suc-mul n d)) (λ (c : Memᴰ v (nominals J d n)). omega (arith, suc-mul n d, in_nominals J d n v c))
    (mathlib.Core.List.Memᴰ.cases_cons j)

pub asking_every_d_up_to_J_late_keeps_the_spacing : (late : ℕ → ℕ) (J : ℕ) → ((m : ℕ) → late m ≤ J) → (d i n : ℕ)
    → Kept d J i (every late d i n) (nominals J d n)
unfolding every nominals
asking_every_d_up_to_J_late_keeps_the_spacing late J most d i zero = quiet
asking_every_d_up_to_J_late_keeps_the_spacing late J most d i (suc n) =
    asks {r = request i (n * d + late n)} (n * d + J) refl (omega (arith, most n)) (omega arith)
    (λ v j. inr (omega (arith, in_nominals J d n v j))) (asking_every_d_up_to_J_late_keeps_the_spacing late J most d i n)

-- never late: each arrival is d behind the one before
abbrev punctual : ℕ → ℕ
punctual m = 0

in_every : (d i n a : ℕ) → Memᴰ (request i a) (every punctual d i n) → a + d ≤ n * d
unfolding every
in_every d i zero a j = absurd (mathlib.Core.List.Memᴰ.not-nil j)
in_every d i (suc n) a j =
    ⊎_elim (λ (e : request i a ≡ request i (n * d + 0)). omega (arith, suc-mul n d, ap (λ (r : Request). r.since) e))
    (λ (c : Memᴰ (request i a) (every punctual d i n)). omega (arith, suc-mul n d, in_every d i n a c)) (mathlib.Core.List.Memᴰ.cases_cons j)

pub asking_every_d_keeps_the_spacing : (d i n : ℕ) → Apart d i (every punctual d i n)
unfolding every
asking_every_d_keeps_the_spacing d i zero = none
asking_every_d_keeps_the_spacing d i (suc n) =
    and {r = request i (n * d + 0)} (λ e a (j : Memᴰ (request i a) (every punctual d i n)). omega (arith, in_every d i n a j)) (asking_every_d_keeps_the_spacing d i n)
