-- Page 01, 'P-NET bounds', the refined figure, with the count of page 02, Asks 2 and 7, and the charge of Ask 10: W and its rounds. Assumes nothing.
use Rattle.std.specs.Prelude.{ℕ, ◌+◌, ◌-◌, ◌*◌, min, cond, eqb}
use Rattle.common.specs.Sums.{when, upto, up}
use Rattle.pnet_rules.specs.Segment.{Segment, owns, count, charged, turn_by, bound_by}
use Rattle.pnet_rules.specs.Search.{value_from, rounds_from}

-- ---- For any charge h(y) and any count a(y) at W

-- what master k saves at y: nothing at itself, else (s - min(s, a(y))) · (h(y) - 10)
unfoldable pub saving : (ℕ → ℕ) → ℕ → ℕ → ℕ → ℕ → ℕ
saving h s k n y = cond (eqb y k) 0 ((s - min s n) * (h y - 10))

-- the right side: s·V less what is saved at every y
unfoldable pub right_by : (ℕ → ℕ) → (ℕ → ℕ → ℕ) → Segment → ℕ → ℕ → ℕ
unfolding count turn_by upto saving
right_by h a S k w = count S k * turn_by h S - upto (λ y. saving h (count S k) k (a y w) y) S.masters

-- rounds are at most 1 + (N - 1)·s
unfoldable pub most_rounds : Segment → ℕ → ℕ
unfolding count
most_rounds S k = 1 + (S.masters - 1) * count S k

-- ---- The planner's count and the edition's charge

-- a(y): the sum over y's streams of (W + R(y) + J)/T rounded up, R by the charge h. Page 01 has W/T. Page 02 stands over it: Ask 2 adds R(y),
-- since a request of y may have waited that long when the window opens; Ask 7 adds J, since its nominal time may lie that far back.
unfoldable pub asked_by : (ℕ → ℕ) → Segment → ℕ → ℕ → ℕ
unfolding upto owns up bound_by
asked_by h S y w = upto (λ i. when (owns S y i) (up (w + bound_by h S y + (S.stream i).jitter) (S.stream i).spacing)) S.number

-- the right side for W of master k
unfoldable pub right : Segment → ℕ → ℕ → ℕ
unfolding right_by charged asked_by
right S k w = right_by (charged S) (asked_by (charged S) S) S k w

-- the round count of the search from W = 0, and W, the value reached then
unfoldable pub rounds : Segment → ℕ → ℕ
unfolding rounds_from right most_rounds
rounds S k = rounds_from 0 (right S k) (most_rounds S k)

unfoldable pub refined : Segment → ℕ → ℕ
unfolding value_from right rounds
refined S k = value_from 0 (right S k) (rounds S k)
