-- Page 02, 'Ask 11': one block of slots, as it is counted stream by stream before it is added up. Assumes nothing.
use Rattle.std.specs.Prelude.{ℕ, ◌+◌, ◌*◌, ◌≤◌, ◌<◌, ◌≡◌, List}
use Rattle.pnet_turn.specs.Turn.{at}
use Rattle.pnet_urgent_table.specs.Table.{beyond_once, queued}

-- what is kept of one stream behind slot a, as in `Due`
pub record Asking (V' T J a next rest : ℕ) : Type 0 where
  pub from : a ≤ next
  pub to : next ≤ a + 20833333
  pub rest_to : rest < V'
  pub asks : V' * next + rest + J ≡ (beyond_once V' T J next + 1) * T
  pub still : beyond_once V' T J next ≡ beyond_once V' T J a

-- one stream is counted: each place has one more for each time that the stream asks once more in its slot
abbrev pub Tallied : ℕ → ℕ → ℕ → ℕ → List ℕ → List ℕ → Type 0
Tallied V' T J a old new = (t : ℕ) → t < 512 → at new t + beyond_once V' T J (a + t) ≡ at old t + beyond_once V' T J (a + t + 1)

-- the first K are counted: each place has by how much Q rises in its slot
pub record Risen (V' : ℕ) (Ts Js : List ℕ) (K a : ℕ) (table : List ℕ) : Type 0 where
  pub by : (t : ℕ) → t < 512 → at table t + queued V' Ts Js K (a + t) ≡ queued V' Ts Js K (a + t + 1)
