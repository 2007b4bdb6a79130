-- Page 02, 'Ask 11': how often the streams of one master ask, laid out on a block of slots. A slot is one turn of the token, V bp, so n slots are V·n bp; every value of the
-- search for x is a whole number of slots. T and J of the streams stand in lists, the most urgent first. Assumes nothing.
use Rattle.std.specs.Prelude.{ℕ, ◌+◌, ◌-◌, ◌*◌, ◌≤◌, ◌<◌, ◌≡◌, List, length}
use Rattle.common.specs.Sums.{sum, up}
use Rattle.pnet_turn.specs.Turn.{at}

-- how often a stream asks in n slots, beyond once
unfoldable pub beyond_once : ℕ → ℕ → ℕ → ℕ → ℕ
unfolding up
beyond_once V' T J n = up (V' * n + J) T - 1

-- Q: the sum of that over the first K streams
unfoldable pub queued : ℕ → List ℕ → List ℕ → ℕ → ℕ → ℕ
unfolding sum beyond_once
queued V' Ts Js K n = sum (λ j. beyond_once V' (at Ts j) (at Js j) n) K

-- streams that can be laid out: each asks at most once in a slot
pub record Slow (V' : ℕ) (Ts Js : List ℕ) (K : ℕ) : Type 0 where
  pub turn_from : 48 ≤ V'
  pub turn_to : V' ≤ 51040
  pub few : K ≤ 80
  pub spacings : K ≤ length Ts
  pub jitters : K ≤ length Js
  pub longer : (j : ℕ) → j < K → V' < at Ts j
  pub spacing_to : (j : ℕ) → j < K → at Ts j ≤ 1000000000
  pub jitter_to : (j : ℕ) → j < K → at Js j < at Ts j

-- what is kept of each stream behind slot a: the last slot before it asks once more, and how many bp behind that slot's end it does so; up to that slot it asks no more than up to a
pub record Due (V' : ℕ) (Ts Js : List ℕ) (K a : ℕ) (nexts rests : List ℕ) : Type 0 where
  pub nexts_long : K ≤ length nexts
  pub rests_long : K ≤ length rests
  pub from : (j : ℕ) → j < K → a ≤ at nexts j
  pub to : (j : ℕ) → j < K → at nexts j ≤ a + 20833333
  pub rest_to : (j : ℕ) → j < K → at rests j < V'
  pub asks : (j : ℕ) → j < K → V' * at nexts j + at rests j + at Js j ≡ (beyond_once V' (at Ts j) (at Js j) (at nexts j) + 1) * at Ts j
  pub still : (j : ℕ) → j < K → beyond_once V' (at Ts j) (at Js j) (at nexts j) ≡ beyond_once V' (at Ts j) (at Js j) a

-- the block of 512 slots behind slot a: place t has Q at slot a + t + 1
pub record Laid (V' : ℕ) (Ts Js : List ℕ) (K a : ℕ) (table : List ℕ) : Type 0 where
  pub long : length table ≡ 512
  pub holds : (t : ℕ) → t < 512 → at table t ≡ queued V' Ts Js K (a + t + 1)
