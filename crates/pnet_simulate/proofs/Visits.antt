-- A visit of the simulator, by cases. Assumes nothing.
use Prim.Native.Nat.{ℕ, ◌+◌, ◌≤◌, ◌<◌}
use mathlib.Core.Path.{◌≡◌, refl}
use mathlib.Core.Bool.{true, false}
use mathlib.Core.List.{List}
use native.Mathlib.Numerals.{add-one}
use lib.ListN.{length, get_or, set}
use borrow.Author.Tests.{lt-ltb, le-ltb}
use Rattle.common.specs.Runs.{filled}
use Rattle.pnet_run.specs.Run.{next}
use Rattle.pnet_simulate.specs.Simulated.{Bus, oldest_of, used, unused, visited, visited_times, begun, sound, simulated}

module _ (n : ℕ) (owner cycle : List ℕ) (b : Bus) where
  -- the oldest request is served
  pub visited_used : (p c m : ℕ) → p ≡ oldest_of owner b.answered b.master → p < length owner → c ≡ get_or cycle p 0 → m ≡ next n b.master
      → ◌≡◌ {A = Bus} (record { now = b.now + 7 + c + 40; master = m; answered = set b.answered p (b.now + 7 + c) }) (visited n owner cycle b)
  unfolding visited used
  visited_used p c m e l d f = simp (← e, lt-ltb p (length owner) l, d, f)

  -- nobody is
  pub visited_unused : (p m : ℕ) → p ≡ oldest_of owner b.answered b.master → length owner ≤ p → m ≡ next n b.master
      → ◌≡◌ {A = Bus} (record { now = b.now + 10; master = m; answered = b.answered }) (visited n owner cycle b)
  unfolding visited unused
  visited_unused p m e l f = simp (← e, le-ltb p (length owner) l, f)

-- one more visit, as a loop counts
pub visited_times_more : (n : ℕ) (owner cycle : List ℕ) (b : Bus) (v : ℕ)
    → visited_times n owner cycle b (v + 1) ≡ visited n owner cycle (visited_times n owner cycle b v)
unfolding visited_times
visited_times_more n owner cycle b v = rw add-one refl

-- ---- The whole answer

module _ (n : ℕ) (owner cycle : List ℕ) (k visits : ℕ) (old : List ℕ) where
  pub begun_is : (m : ℕ) (l : List ℕ) → m ≡ next n k → l ≡ filled (λ p. 0) (length owner) old
      → ◌≡◌ {A = Bus} (record { now = 40; master = m; answered = l }) (begun n owner k old)
  unfolding begun
  begun_is m l e f = rw (e, f)

  pub simulated_is : (b : Bus) → sound n owner cycle k (length old) ≡ true → b ≡ visited_times n owner cycle (begun n owner k old) visits
      → b ≡ simulated n owner cycle k visits old
  unfolding simulated
  simulated_is b e f = rw e f

  pub simulated_none : sound n owner cycle k (length old) ≡ false → ◌≡◌ {A = Bus} (record { now = 0; master = 0; answered = old }) (simulated n owner cycle k visits old)
  unfolding simulated
  simulated_none e = rw e
