-- Page 02, 'Ask 11', in the page's own words: what the planner that sends urgent requests first answers to the bytes of a sheet, and what the three lent runs hold
-- then. Who goes ahead of whom, b and the sum are those of crates/pnet_urgent_rules, V is the edition's. Assumes nothing.
use Rattle.std.specs.Prelude.{ℕ, ◌+◌, ◌-◌, ◌≤◌, ◌<◌, min, ◌≡◌, List, length, get_or}
use Rattle.sheet_rules.specs.Sheets.{Sheet, masters_of}
use Rattle.pnet_rules.specs.Segment.{Segment, segment_of, turn}
use Rattle.pnet_rules.specs.Search.{value_from}
use Rattle.pnet_plan.specs.declared.answer.Plan.{Plan}
use Rattle.pnet_urgent_rules.specs.Urgent.{rank, right}
use Rattle.pnet_urgent_rules.specs.Refusals.{Solves, Given, Accepted}
use Rattle.demands.specs.Pnet.{LaterKept}
use Rattle.std.specs.declared.result.Result.TheVariants.{Ok, Err}
use Rattle.common.specs.Checks.{refusal}
use Rattle.std.specs.declared.result.Result.{Result}
use Rattle.common.specs.declared.Refusal.{Refusal}

-- what a run with 'a place for each stream' holds for stream i
abbrev pub written_at : List ℕ → ℕ → ℕ
written_at run i = get_or run (i - 1) 0

-- the three numbers of stream i
pub record Figures (S : Segment) (i place x rounds : ℕ) : Type 0 where
  -- 'smaller D goes first in a master, equal D by sheet order': one more than how many go ahead of it
  pub placed : place ≡ rank S i + 1
  -- 'the least x with x = V·(1 + b + the sum over the master's streams ahead of i of x/T rounded up)', and no smaller number is one
  pub solves : Solves S i x
  pub least : (w : ℕ) → Solves S i w → x ≤ w
  -- 'accepted exactly if the least solution exists and is at most D'
  pub in_time : x ≤ (S.stream i).deadline
  -- 'The search starts from x = V': x is the value at the round count
  pub reached : x ≡ value_from (turn S) (right S i) rounds
  -- 'Rounds are reported as for W': the first m whose m-th value equals the next one
  pub stands : value_from (turn S) (right S i) rounds ≡ value_from (turn S) (right S i) (rounds + 1)
  pub first : (m : ℕ) → m < rounds → value_from (turn S) (right S i) m ≡ value_from (turn S) (right S i) (m + 1) → ⊥

-- the length of the shortest lent run
abbrev pub room_in : List ℕ → List ℕ → List ℕ → ℕ
room_in a b c = min (length a) (min (length b) (length c))

-- the answer to the bytes s and what is in the runs then, lent as `lent-places`, `lent-x` and `lent-rounds`
pub data Answers (s lent-places lent-x lent-rounds : List ℕ) : Result Plan Refusal → List ℕ → List ℕ → List ℕ → Type 0 where
  -- 'A refusal gives its number and place only; all lent result memory keeps its bytes.' `Given` is the page's list
  refused : {n p : ℕ} → Given s (room_in lent-places lent-x lent-rounds) n p → Answers s lent-places lent-x lent-rounds (Err (refusal n p)) lent-places lent-x lent-rounds
  -- else the three numbers of each stream; 'later places keep what they had'. `Accepted`: the bytes read as a P-NET sheet H, each run has a place for each stream, and each
  -- stream is accepted
  accepted : {H : Sheet} {places x rounds : List ℕ} → Accepted s (room_in lent-places lent-x lent-rounds) H
      → ((i : ℕ) → 1 ≤ i → i ≤ length H.streams → Figures (segment_of H) i (written_at places i) (written_at x i) (written_at rounds i))
      → LaterKept (length H.streams) lent-places places → LaterKept (length H.streams) lent-x x → LaterKept (length H.streams) lent-rounds rounds
      → Answers s lent-places lent-x lent-rounds (Ok (record { masters = masters_of H; streams = length H.streams })) places x rounds
