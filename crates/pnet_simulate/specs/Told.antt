-- What the simulator records is what a run of the bus does. Assumes nothing.
use Rattle.std.specs.Prelude.{ℕ, ◌-◌, ◌≤◌, ◌≡◌, length, get_or}
use mathlib.Core.List.{List, Memᴰ}
use Rattle.pnet_rules.specs.Segment.{Segment}
use Rattle.pnet_run.specs.Run.{Request, request, Answer, answer, Queues, toward, Run}
use Rattle.pnet_run.specs.Promise.{Apart}
use Rattle.pnet_simulate.specs.Simulated.{Bus}

-- the segment of n masters whose stream i, counted from 1, is of this owner and has this C; a run asks nothing else of it
abbrev pub segment_by : ℕ → List ℕ → List ℕ → Segment
segment_by n owner cycle =
    record {
      edition = 1;
      masters = n;
      number = length owner;
      stream = λ i. record { master = get_or owner (i - 1) 0; cycle = get_or cycle (i - 1) 0; spacing = 0; deadline = 0; jitter = 0 };
    }

-- there is a run to this instant, with the token at this master, in which each stream has asked once, at 0, and the requests that
-- were answered are those recorded, at the instants recorded
pub record Told (S : Segment) (b : Bus) : Type 0 where
  pub queues : Queues
  pub came : List Request
  pub went : List Answer
  pub run : Run S b.now (toward b.master 0) queues came went
  pub each_asks : (i : ℕ) → 1 ≤ i → i ≤ S.number → Memᴰ (request i 0) came
  pub at_0 : (r : Request) → Memᴰ r came → r.since ≡ 0
  pub once : (d i : ℕ) → Apart d i came
  pub recorded : (i : ℕ) → 1 ≤ i → i ≤ S.number → 1 ≤ get_or b.answered (i - 1) 0
      → Memᴰ (answer (request i 0) (get_or b.answered (i - 1) 0)) went
  pub completed : (a : Answer) → Memᴰ a went → get_or b.answered (a.to.of - 1) 0 ≡ a.at
