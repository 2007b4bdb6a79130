-- The bus at its slowest, visit by visit: every stream asks once, at 0, when the token has just left master k; each reaction takes
-- 7 bp and each message all of its C. Streams are counted from 0 here, as the places of a run of numbers. Assumes nothing.
use Rattle.std.specs.Prelude.{ℕ, zero, suc, ◌+◌, ◌-◌, Bool, cond, ◌&&◌, List, length, get_or, set, eqb, ltb, leb}
use Rattle.common.specs.Runs.{filled}
use Rattle.common.specs.Sums.{when, greatest, first_of}
use Rattle.pnet_run.specs.Run.{next}
use Rattle.pnet_simulate.specs.declared.Stage.{Stage}

-- where a run stands: the token arrives at this instant, at this master; and when each stream's request was completed, 0 for one
-- that still waits
pub record Bus : Type 0 where
  pub now : ℕ
  pub master : ℕ
  pub answered : List ℕ

abbrev pub bus_of : Stage → List ℕ → Bus
bus_of s answered = record { now = s.now; master = s.master; answered = answered }

-- ---- One visit

-- the request of stream p waits, and is master m's
unfoldable pub waits : List ℕ → List ℕ → ℕ → ℕ → Bool
waits owner answered m p = eqb (get_or owner p 0) m && eqb (get_or answered p 0) 0

-- master m's oldest, and the number of streams where none waits
unfoldable pub oldest_of : List ℕ → List ℕ → ℕ → ℕ
unfolding first_of waits
oldest_of owner answered m = first_of (waits owner answered m) (length owner) 0

-- stream p is served: 7 bp, all of its C, and 40 bp to the next of n masters
unfoldable pub used : ℕ → List ℕ → ℕ → Bus → Bus
unfolding next
used n cycle p b =
    record {
      now = b.now + 7 + get_or cycle p 0 + 40;
      master = next n b.master;
      answered = set b.answered p (b.now + 7 + get_or cycle p 0);
    }

-- nobody is: 10 bp
unfoldable pub unused : ℕ → Bus → Bus
unfolding next
unused n b = record { now = b.now + 10; master = next n b.master; answered = b.answered }

unfoldable pub visited : ℕ → List ℕ → List ℕ → Bus → Bus
unfolding used unused oldest_of
visited n owner cycle b =
    let p = oldest_of owner b.answered b.master in
    cond (ltb p (length owner)) (used n cycle p b) (unused n b)

-- ---- All visits

-- the token arrives behind k, 40 bp after 0, and every request waits
unfoldable pub begun : ℕ → List ℕ → ℕ → List ℕ → Bus
unfolding next filled
begun n owner k old = record { now = 40; master = next n k; answered = filled (λ p. 0) (length owner) old }

unfoldable pub visited_times : ℕ → List ℕ → List ℕ → Bus → ℕ → Bus
unfolding visited
visited_times n owner cycle b zero = b
visited_times n owner cycle b (suc v) = visited n owner cycle (visited_times n owner cycle b v)

-- there is such a run: k is one of 1..n, each stream has a C, which isn't 0, and a place for its completion
unfoldable pub sound : ℕ → List ℕ → List ℕ → ℕ → ℕ → Bool
unfolding first_of
sound n owner cycle k room =
    leb 1 k
    && (leb k n
    && (leb (length owner) (length cycle)
    && (leb (length owner) room && leb (length owner) (first_of (λ p. eqb (get_or cycle p 0) 0) (length owner) 0))))

-- what the simulator answers: where the run stands after so many visits; all 0, and nothing changed, where there is no such run
unfoldable pub simulated : ℕ → List ℕ → List ℕ → ℕ → ℕ → List ℕ → Bus
unfolding visited_times begun sound
simulated n owner cycle k visits old =
    cond (sound n owner cycle k (length old))
    (visited_times n owner cycle (begun n owner k old) visits)
    (record { now = 0; master = 0; answered = old })

-- ---- Responses

-- all ask at 0, so a response is the instant of its completion; that of stream p, where it is master k's
unfoldable pub response_of : List ℕ → List ℕ → ℕ → ℕ → ℕ
response_of owner answered k p = when (eqb (get_or owner p 0) k) (get_or answered p 0)

-- master k's largest
unfoldable pub largest_of : List ℕ → List ℕ → ℕ → ℕ
unfolding greatest response_of
largest_of owner answered k = greatest (λ i. response_of owner answered k (i - 1)) (length owner)
