-- Demand 3 of the page and what it rests on: spacing that is kept (page 02, Ask 7), a request that is answered within a figure, an accepted
-- segment. Assumes nothing.
use Rattle.std.specs.Prelude.{ℕ, ◌+◌, ◌≤◌, ◌<◌, ◌≡◌, ◌≢◌, ◌⊎◌}
use mathlib.Core.List.{List, [], ◌∷◌, Memᴰ}
use Rattle.units.specs.declared.BitPeriods.{BitPeriods}
use Rattle.pnet_rules.specs.Segment.{Segment, count, bound}
use Rattle.pnet_rules.specs.Limits.{Declared}
use Rattle.pnet_run.specs.Run.{Belongs, Request, request, Answer, answer, Queues, Token, Settled, Run}

-- ---- Spacing

-- 'each arrival is 0 to J after a nominal time of its own, and a stream's nominal times are at least T apart' (page 02, Ask 7), for the requests of
-- stream i among those that came. A nominal time may lie before the run's start; so each is told by the instant J behind it, a plain number:
-- an arrival is at that instant of its own or up to J before it. `due` has these instants, in the order of the requests; nothing is said
-- of their own order
pub data Kept (T J i : ℕ) : List Request → List ℕ → Type 0 where
  quiet : Kept T J i [] []
  other : {r : Request} {came : List Request} {due : List ℕ} → r.of ≢ i → Kept T J i came due → Kept T J i (r ∷ came) due
  asks : {r : Request} {came : List Request} {due : List ℕ} (u : ℕ) → r.of ≡ i → r.since ≤ u → u ≤ r.since + J
      → ((v : ℕ) → Memᴰ v due → (u + T ≤ v) ⊎ (v + T ≤ u)) → Kept T J i came due → Kept T J i (r ∷ came) (u ∷ due)

-- each stream of master k keeps its spacing
abbrev pub Spaced : Segment → ℕ → List Request → Type 0
Spaced S k came = (i : ℕ) → Belongs S k i → (due : List ℕ) × Kept (S.stream i).spacing (S.stream i).jitter i came due

-- the arrivals of stream i are at least d apart; the latest is first. So it is with d = T where J is 0 (proofs/Spacing)
pub data Apart (d i : ℕ) : List Request → Type 0 where
  none : Apart d i []
  and : {r : Request} {came : List Request} → (r.of ≡ i → (a : ℕ) → Memᴰ (request i a) came → a + d ≤ r.since)
      → Apart d i came → Apart d i (r ∷ came)

-- ---- Answered within a figure

-- a run that has come to t lasts up to the instant u: it is past u, or at u with no completion due any more
pub data Lasts (t : ℕ) (y : Token) (u : ℕ) : Type 0 where
  past : u < t → Lasts t y u
  at_it : u ≡ t → Settled y → Lasts t y u

-- every request of master k is answered within R, a count of bp: 'completed by arrival plus bound, if the run lasts that long'. An instant
-- of a run is a plain number, so many bp from its start
pub record Answered (R : BitPeriods) (S : Segment) (k t : ℕ) (y : Token) (came : List Request) (went : List Answer) : Type 0 where
  pub in_time : (a : Answer) → Memᴰ a went → Belongs S k a.to.of → a.at ≤ a.to.since + R.0
  pub none_left : (r : Request) → Memᴰ r came → Belongs S k r.of → Lasts t y (r.since + R.0)
      → (u : ℕ) × Memᴰ (answer r u) went

-- no request of master k, in any run in which k keeps its spacing, takes longer than R
pub record Safe (R : BitPeriods) (S : Segment) (k : ℕ) : Type 0 where
  pub ever : {t : ℕ} {y : Token} {q : Queues} {came : List Request} {went : List Answer}
      → Run S t y q came went → Spaced S k came → Answered R S k t y came went

-- some run in which every master keeps its spacing answers a request of master k at its arrival plus R
pub record Reached (R : BitPeriods) (S : Segment) (k : ℕ) : Type 0 where
  pub now : ℕ
  pub token : Token
  pub queues : Queues
  pub came : List Request
  pub went : List Answer
  pub run : Run S now token queues came went
  pub spaced : (y : ℕ) → Spaced S y came
  pub slow : Request
  pub arrived : Memᴰ slow came
  pub own : Belongs S k slow.of
  pub exact : Memᴰ (answer slow (slow.since + R.0)) went

-- ---- Segments

-- an accepted one: its fields are in range, and each stream passes, its master's R being at most its D
pub record Accepted (S : Segment) : Type 0 where
  pub declared : Declared S
  pub passes : (m i : ℕ) → Belongs S m i → bound S m ≤ (S.stream i).deadline

-- where some run is asked to take exactly the bound. Page 02, Ask 10: 'the exactness part of demand 3 is asked only for edition 1'; there each
-- master is charged its own H. And page 01: each master's own streams are equally long, and every master but k is silent or has at least as many
-- streams as k
pub record Even (S : Segment) (k : ℕ) : Type 0 where
  pub first_edition : S.edition ≡ 1
  pub alike : (m i j : ℕ) → Belongs S m i → Belongs S m j → (S.stream i).cycle ≡ (S.stream j).cycle
  pub others : (y : ℕ) → 1 ≤ y → y ≤ S.masters → y ≢ k → (count S y ≡ 0) ⊎ (count S k ≤ count S y)
