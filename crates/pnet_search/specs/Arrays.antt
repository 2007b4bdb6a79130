-- Page 01, 'P-NET bounds': the page's figures, read off the arrays by which the code keeps a segment: at place y master y's count s, its charge, which
-- is H or, under edition 2, the largest H (page 02, Ask 10), its slack, no more than T - J of any of its streams, and the end of its pairs; up to that end,
-- as many as the count, stand the pairs of T and J of its streams. And what keeps the code's sums within 32 bits. Words of inner contracts, and of `fill`,
-- which only the planner calls. Assumes nothing.
use Rattle.std.specs.Prelude.{ℕ, ◌+◌, ◌-◌, ◌*◌, ◌≤◌, ◌<◌, ◌≡◌, List, length}
use Rattle.common.specs.Sums.{upto, up}
use Rattle.pnet_rules.specs.Search.{value_from, rounds_from}
use Rattle.pnet_rules.specs.Refined.{saving}
use Rattle.pnet_turn.specs.Turn.{at}

-- ---- The figures, read off them

-- T and J of the stream at place p of the pairs: the two stand side by side
abbrev pub spacing_at : List ℕ → ℕ → ℕ
spacing_at pairs p = at pairs (2 * p)

abbrev pub jitter_at : List ℕ → ℕ → ℕ
jitter_at pairs p = at pairs (2 * p + 1)

-- the requests of n streams in a window, to which each adds its J, their pairs from a place on
unfoldable pub asked_in : List ℕ → ℕ → ℕ → ℕ → ℕ
unfolding upto up
asked_in pairs from window n = upto (λ j. up (window + jitter_at pairs (from + (j - 1))) (spacing_at pairs (from + (j - 1)))) n

-- a(y) at W: the window is W and R(y), for V
unfoldable pub asked_at : List ℕ → List ℕ → List ℕ → ℕ → ℕ → ℕ → ℕ
unfolding asked_in
asked_at counts ends pairs turn y w = asked_in pairs (at ends y - at counts y) (w + at counts y * turn) (at counts y)

-- V, over N masters
unfoldable pub turn_in : List ℕ → ℕ → ℕ
unfolding upto
turn_in charges N = upto (at charges) N

-- R of master k, among N masters
unfoldable pub bound_in : List ℕ → List ℕ → ℕ → ℕ → ℕ
unfolding turn_in
bound_in counts charges N k = at counts k * turn_in charges N

-- what master k saves at y at W, for V
unfoldable pub saved_in : List ℕ → List ℕ → List ℕ → List ℕ → ℕ → ℕ → ℕ → ℕ → ℕ
unfolding saving asked_at
saved_in counts charges ends pairs turn k w y = saving (at charges) (at counts k) k (asked_at counts ends pairs turn y w) y

-- the right side for W of master k, among N masters
unfoldable pub right_in : List ℕ → List ℕ → List ℕ → List ℕ → ℕ → ℕ → ℕ → ℕ
unfolding bound_in turn_in upto saved_in
right_in counts charges ends pairs N k w = bound_in counts charges N k - upto (saved_in counts charges ends pairs (turn_in charges N) k w) N

-- its round count among N masters, and the value reached then
unfoldable pub rounds_in : List ℕ → List ℕ → List ℕ → List ℕ → ℕ → ℕ → ℕ
unfolding rounds_from right_in
rounds_in counts charges ends pairs N k = rounds_from 0 (right_in counts charges ends pairs N k) (1 + (N - 1) * at counts k)

unfoldable pub refined_in : List ℕ → List ℕ → List ℕ → List ℕ → ℕ → ℕ → ℕ
unfolding value_from right_in rounds_in
refined_in counts charges ends pairs N k = value_from 0 (right_in counts charges ends pairs N k) (rounds_in counts charges ends pairs N k)

-- ---- What keeps the code's sums within 32 bits

-- n pairs from a place on, in their ranges
pub record Spaced (pairs : List ℕ) (from n : ℕ) : Type 0 where
  pub inside : 2 * (from + n) ≤ length pairs
  pub most : (j : ℕ) → j < n → spacing_at pairs (from + j) ≤ 1000000000
  pub less : (j : ℕ) → j < n → jitter_at pairs (from + j) < spacing_at pairs (from + j)

-- master y has at most 80 streams, in range, and a charge between an unused visit's and the longest
pub record Served (counts charges ends pairs : List ℕ) (y : ℕ) : Type 0 where
  pub inside : y ≤ 32
  pub count_to : at counts y ≤ 80
  pub charge_from : 10 ≤ at charges y
  pub charge_to : at charges y ≤ 1595
  pub behind : at counts y ≤ at ends y
  pub spaced : Spaced pairs (at ends y - at counts y) (at counts y)

-- so has each of N masters, and the turn is V
pub record Kept (N turn : ℕ) (counts charges ends pairs : List ℕ) : Type 0 where
  pub few : N ≤ 32
  pub turn_is : turn ≡ turn_in charges N
  pub each : (y : ℕ) → 1 ≤ y → y ≤ N → Served counts charges ends pairs y

-- ---- What a search keeps

-- of each of N masters: its slack is above T - J of none of its streams, and R is not above it
pub record Slack (N turn : ℕ) (counts ends slacks pairs : List ℕ) : Type 0 where
  pub covers : (y : ℕ) → 1 ≤ y → y ≤ N → at counts y * turn ≤ at slacks y
  pub above_none : (y j : ℕ) → 1 ≤ y → y ≤ N → j < at counts y
      → at slacks y ≤ spacing_at pairs (at ends y - at counts y + j) - jitter_at pairs (at ends y - at counts y + j)

-- at W = 0, of master y in the search of master k: at a master with as many streams as k, and k is one, nothing is saved, now or later; at another
-- each stream counts once, until the slack of y is passed
pub record Opens (counts charges slacks : List ℕ) (turn k y saved until : ℕ) : Type 0 where
  pub never : at counts k ≤ at counts y → (saved ≡ 0) × (until ≡ 4294967295)
  pub once : at counts y < at counts k → (saved ≡ (at counts k - at counts y) * (at charges y - 10)) × (until ≡ at slacks y - at counts y * turn)

-- from W = w on: what is kept of y is what k saves there at each W up to the one kept beside it; at itself that is past every W
pub record Fresh (counts charges ends pairs : List ℕ) (N turn k w : ℕ) (saved until : List ℕ) : Type 0 where
  pub saved_long : length saved ≡ 33
  pub until_long : length until ≡ 33
  pub own : 4083200 ≤ at until k
  pub right : (y v : ℕ) → 1 ≤ y → y ≤ N → w ≤ v → v ≤ at until y → at saved y ≡ saved_in counts charges ends pairs turn k v y
