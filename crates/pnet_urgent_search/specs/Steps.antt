-- Words of the inner contracts of the search for x: how many streams are searched for, a walk, which is one stream's search on its way through the blocks of slots, and what
-- carries the walks through a block. Assumes nothing.
use Rattle.std.specs.Prelude.{ℕ, suc, ◌+◌, ◌*◌, ◌/◌, ◌≤◌, ◌<◌, ◌≡◌, List, length}
use Rattle.common.specs.Sums.{sum}
use Rattle.pnet_rules.specs.Search.{value_from}
use Rattle.pnet_turn.specs.Turn.{at}
use Rattle.pnet_urgent_search.specs.Walks.{blocked_at, slots_for, Found}

-- ---- The load

-- how many of 2^40 parts of the bus the first i streams take, each rounded down
unfoldable pub load : ℕ → List ℕ → ℕ → ℕ
unfolding sum
load V' Ts i = sum (λ j. V' * 1099511627776 / at Ts j) i

-- K of L streams: the most that do not take the whole bus
pub record Loaded (V' : ℕ) (Ts : List ℕ) (L K : ℕ) : Type 0 where
  pub to : K ≤ L
  pub below : load V' Ts K < 1099511627776
  pub full : K < L → 1099511627776 ≤ load V' Ts (K + 1)

-- ---- A walk

-- with c added, the table of the block behind slot a is the right side f as far as `most`; f never falls, and is at least one slot
pub record Shows (f : ℕ → ℕ) (table : List ℕ) (a c most : ℕ) : Type 0 where
  pub rises : (x y : ℕ) → x ≤ y → f x ≤ f y
  pub some : (x : ℕ) → 1 ≤ f x
  pub right : (t : ℕ) → t < 512 → a + t + 1 ≤ most → c + at table t ≡ f (a + t + 1)

-- once the slots up to a are passed: value m of the search is n, behind a, and no value before it equals the next one; or the search is done
pub data Walk (f : ℕ → ℕ) (most a n m : ℕ) : Type 0 where
  onward : a < n → n ≤ most → n ≡ value_from 1 f m → ((j : ℕ) → j < m → value_from 1 f j ≡ value_from 1 f (suc j) → ⊥) → Walk f most a n m
  done : n ≤ a → Found f most n m → Walk f most a n m

-- it starts at slot 1 where that fits into D; at 0 where it does not, or where the stream at place i is not among the first `walks`
pub data Starts (V' D walks i n : ℕ) : Type 0 where
  at_one : i < walks → V' ≤ D → n ≡ 1 → Starts V' D walks i n
  short : D < V' → n ≡ 0 → Starts V' D walks i n
  behind : walks ≤ i → n ≡ 0 → Starts V' D walks i n

-- what keeps the code's sums within 32 bits: of the block, and of a walk
pub record Block (table : List ℕ) (a : ℕ) : Type 0 where
  pub early : a ≤ 20833333
  pub long : length table ≡ 512
  pub small : (t : ℕ) → t < 512 → at table t ≤ 1700000000

pub record Sound (most a n m : ℕ) : Type 0 where
  pub fits : n ≤ most
  pub few : a < n → m < n

-- ---- The walks of the first j streams, in the runs that were `slots` and `rounds` and are now slots' and rounds'

-- places from j on keep what they had, and no run changes its length
pub record Apart (j : ℕ) (slots rounds slots' rounds' : List ℕ) : Type 0 where
  pub slots_long : length slots' ≡ length slots
  pub rounds_long : length rounds' ≡ length rounds
  pub slots_kept : (i : ℕ) → j ≤ i → at slots' i ≡ at slots i
  pub rounds_kept : (i : ℕ) → j ≤ i → at rounds' i ≡ at rounds i

-- they have started
pub record Started (V' : ℕ) (Ds : List ℕ) (walks j : ℕ) (slots rounds slots' rounds' : List ℕ) : Type 0 where
  pub apart : Apart j slots rounds slots' rounds'
  pub starts : (i : ℕ) → i < j → Starts V' (at Ds i) walks i (at slots' i)
  pub none : (i : ℕ) → i < j → at rounds' i ≡ 0

-- they are carried through the block behind slot a, of L streams; none is past slot `last`
pub record Carried (V' : ℕ) (Ds : List ℕ) (L : ℕ) (table : List ℕ) (a j : ℕ) (slots rounds slots' rounds' : List ℕ) (last : ℕ) : Type 0 where
  pub apart : Apart j slots rounds slots' rounds'
  pub walked : (i : ℕ) → i < j → (f : ℕ → ℕ) → Shows f table a (1 + blocked_at L i + i) (at Ds i / V')
      → Walk f (at Ds i / V') a (at slots i) (at rounds i) → Walk f (at Ds i / V') (a + 512) (at slots' i) (at rounds' i)
  pub past_none : (i : ℕ) → i < j → at slots' i ≤ last
  pub early : last ≤ 20833333

-- ---- All of them, of L streams

-- once the slots up to a are passed, the first `walks` are on their way or done
pub record Walking (V' : ℕ) (Ts Js Ds : List ℕ) (L walks a : ℕ) (slots rounds : List ℕ) : Type 0 where
  pub each : (i : ℕ) → i < walks → Walk (slots_for V' Ts Js L i) (at Ds i / V') a (at slots i) (at rounds i)

-- each of the first j is done
pub record Ended (V' : ℕ) (Ts Js Ds : List ℕ) (L j : ℕ) (slots rounds : List ℕ) : Type 0 where
  pub each : (i : ℕ) → i < j → Found (slots_for V' Ts Js L i) (at Ds i / V') (at slots i) (at rounds i)
