-- Page 02, 'Ask 11': the order of urgency, the figure x of each stream and its rounds. V is the edition's, `turn` of pnet_rules. Assumes nothing.
use Rattle.std.specs.Prelude.{ℕ, suc, ◌+◌, ◌*◌, Bool, cond, ◌&&◌, ◌||◌, eqb, ltb}
use Rattle.common.specs.Sums.{when, upto, up}
use Rattle.pnet_rules.specs.Segment.{Segment, owns, turn}
use Rattle.pnet_rules.specs.Search.{value_from, rounds_from}

-- ---- The order

-- stream j goes ahead of stream i: it is of the same master, and has the smaller D, or the same D and the smaller number
unfoldable pub ahead : Segment → ℕ → ℕ → Bool
unfolding owns
ahead S i j =
    owns S (S.stream i).master j
    && (ltb (S.stream j).deadline (S.stream i).deadline || (eqb (S.stream j).deadline (S.stream i).deadline && ltb j i))

-- how many go ahead of stream i, and of how many it goes ahead; its place in its master's order is one more than the first
unfoldable pub rank : Segment → ℕ → ℕ
unfolding upto ahead
rank S i = upto (λ j. when (ahead S i j) 1) S.number

unfoldable pub behind : Segment → ℕ → ℕ
unfolding upto ahead
behind S i = upto (λ j. when (ahead S j i) 1) S.number

abbrev pub place : Segment → ℕ → ℕ
place S i = suc (rank S i)

-- b: 0 for the last in order and 1 for the others, since a less urgent request may be in the stack
unfoldable pub blocked : Segment → ℕ → ℕ
unfolding behind
blocked S i = cond (eqb (behind S i) 0) 0 1

-- ---- The figure, for any V

-- the requests of the streams ahead of i in a window x: for each x/T rounded up, J of that stream added to x before
unfoldable pub ahead_in : Segment → ℕ → ℕ → ℕ
unfolding upto ahead up
ahead_in S i x = upto (λ j. when (ahead S i j) (up (x + (S.stream j).jitter) (S.stream j).spacing)) S.number

-- the right side: V·(1 + b + the requests ahead)
unfoldable pub right_by : ℕ → Segment → ℕ → ℕ → ℕ
unfolding blocked ahead_in
right_by V' S i x = V' * (1 + blocked S i + ahead_in S i x)

-- ---- The figure

unfoldable pub right : Segment → ℕ → ℕ → ℕ
unfolding right_by turn
right S i x = right_by (turn S) S i x

-- the round count of the search from x = V, and x, the value reached then. Each value that is not the last is at least one more than the one before, so of D + 1 values one
-- stands or is above D
unfoldable pub rounds : Segment → ℕ → ℕ
unfolding rounds_from right turn
rounds S i = rounds_from (turn S) (right S i) (S.stream i).deadline

unfoldable pub figure : Segment → ℕ → ℕ
unfolding value_from right rounds turn
figure S i = value_from (turn S) (right S i) (rounds S i)

-- stream i is not accepted: the search has come above its D
unfoldable pub unmet : Segment → ℕ → Bool
unfolding figure
unmet S i = ltb (S.stream i).deadline (figure S i)
