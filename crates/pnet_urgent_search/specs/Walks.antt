-- Page 02, 'Ask 11': the search for x of every stream of one master, in slots: x is V·n. The streams' T, J and D stand in lists, the most urgent first. Assumes nothing.
use Rattle.std.specs.Prelude.{ℕ, ◌+◌, ◌-◌, ◌*◌, ◌≤◌, ◌<◌, ◌≡◌, cond, List, eqb, length}
use Rattle.common.specs.Sums.{sum, up}
use Rattle.pnet_rules.specs.Search.{value_from, Settles}
use Rattle.pnet_turn.specs.Turn.{at}

-- b of the stream at place i of L, from 0: nothing waits behind the last
abbrev pub blocked_at : ℕ → ℕ → ℕ
blocked_at L i = cond (eqb (i + 1) L) 0 1

-- the right side in slots, for the stream at place i of L, from 0: the i before it go ahead
unfoldable pub slots_for : ℕ → List ℕ → List ℕ → ℕ → ℕ → ℕ → ℕ
unfolding sum up
slots_for V' Ts Js L i n = 1 + blocked_at L i + sum (λ j. up (V' * n + at Js j) (at Ts j)) i

-- the streams of one master in order of urgency
pub record Urgency (V' : ℕ) (Ts Js Ds : List ℕ) (L : ℕ) : Type 0 where
  pub turn_from : 48 ≤ V'
  pub turn_to : V' ≤ 51040
  pub few : L ≤ 80
  pub spacings : length Ts ≡ L
  pub jitters : length Js ≡ L
  pub deadlines : length Ds ≡ L
  pub spacing_from : (j : ℕ) → j < L → 1 ≤ at Ts j
  pub spacing_to : (j : ℕ) → j < L → at Ts j ≤ 1000000000
  pub jitter_to : (j : ℕ) → j < L → at Js j < at Ts j
  pub deadline_from : (j : ℕ) → j < L → 1 ≤ at Ds j
  pub deadline_to : (j : ℕ) → j < L → at Ds j ≤ at Ts j - at Js j
  pub sorted : (i j : ℕ) → i ≤ j → j < L → at Ds i ≤ at Ds j

-- what the search from slot 1 finds, n slots after m rounds, `most` being the slots that fit into D: where it first stands still, or 0 where no solution is so small
pub data Found (f : ℕ → ℕ) (most n m : ℕ) : Type 0 where
  solved : 1 ≤ n → n ≤ most → n ≡ value_from 1 f m → Settles 1 f m → Found f most n m
  none : n ≡ 0 → ((w : ℕ) → w ≡ f w → most < w) → Found f most n m
