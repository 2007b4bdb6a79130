-- Page 01, 'P-NET bounds' and 'Numbered refusals', in the page's own words: what the P-NET planner answers to the bytes of a sheet, and what the
-- three lent runs hold then. s, H, V, R and the right side for W are those of crates/pnet_rules, with the count of page 02, Asks 2 and 7, and the
-- charge of the sheet's edition, Ask 10. Assumes nothing.
use Rattle.std.specs.Prelude.{ℕ, ◌+◌, ◌-◌, ◌*◌, ◌≤◌, ◌<◌, ◌≡◌, List, length, get_or}
use Rattle.sheet_rules.specs.Sheets.{Sheet, masters_of}
use Rattle.pnet_rules.specs.Segment.{Segment, segment_of, count, turn}
use Rattle.pnet_rules.specs.Search.{value_from}
use Rattle.pnet_rules.specs.Refined.{right}
use Rattle.pnet_plan.specs.declared.answer.Plan.{Plan}
use Rattle.pnet_plan.specs.Refusals.{Given, Accepted}
use Rattle.std.specs.declared.result.Result.TheVariants.{Ok, Err}
use Rattle.common.specs.Checks.{refusal}
use Rattle.std.specs.declared.result.Result.{Result}
use Rattle.common.specs.declared.Refusal.{Refusal}

-- the three numbers of master k
pub record Figures (S : Segment) (k R W rounds : ℕ) : Type 0 where
  -- 'For a master k with s streams the bound is R(k) = s times V.'
  pub bound : R ≡ count S k * turn S
  -- 'Refined figure for k: the least W with W = ..': it is what the right side gives for it, and no smaller number is
  pub solves : W ≡ right S k W
  pub least : (w : ℕ) → w ≡ right S k w → W ≤ w
  -- 'It is reached from W = 0 by putting the right side for W again and again.': it is the value of the sequence at the round count
  pub reached : W ≡ value_from 0 (right S k) rounds
  -- 'The round count is the first m whose m-th value equals the next one'
  pub stands : value_from 0 (right S k) rounds ≡ value_from 0 (right S k) (rounds + 1)
  pub first : (m : ℕ) → m < rounds → value_from 0 (right S k) m ≡ value_from 0 (right S k) (m + 1) → ⊥
  -- 'it is at most 1 + (N - 1)·s'
  pub few : rounds ≤ 1 + (S.masters - 1) * count S k
  -- 'all zero for a master without streams'
  pub silent : count S k ≡ 0 → (R ≡ 0) × (W ≡ 0) × (rounds ≡ 0)

-- a run was `old` when it was lent: 'later places keep what they had'
pub record LaterKept (N : ℕ) (old run : List ℕ) : Type 0 where
  pub long : length run ≡ length old
  pub later : (i : ℕ) → N ≤ i → get_or run i 0 ≡ get_or old i 0

-- the answer to the bytes s and what is in the runs then, lent as `lent-R`, `lent-W` and `lent-rounds`
pub data Answers (s lent_R lent_W lent_rounds : List ℕ) : Result Plan Refusal → List ℕ → List ℕ → List ℕ → Type 0 where
  -- 'A refusal gives its number and place only; all lent result memory keeps its bytes.' `Given` is the page's list
  refused : {n p : ℕ} → Given s (length lent_R) (length lent_W) (length lent_rounds) n p → Answers s lent_R lent_W lent_rounds (Err (refusal n p)) lent_R lent_W lent_rounds
  -- else 'R, W and rounds for masters 1..N', master k's at place k - 1. `Accepted`: the bytes read as a P-NET sheet H, each run has N places, and
  -- each stream's R is at most its D
  accepted : {H : Sheet} {R W rounds : List ℕ} → Accepted s (length lent_R) (length lent_W) (length lent_rounds) H
      → ((k : ℕ) → 1 ≤ k → k ≤ masters_of H → Figures (segment_of H) k (get_or R (k - 1) 0) (get_or W (k - 1) 0) (get_or rounds (k - 1) 0))
      → LaterKept (masters_of H) lent_R R → LaterKept (masters_of H) lent_W W → LaterKept (masters_of H) lent_rounds rounds
      → Answers s lent_R lent_W lent_rounds (Ok (record { masters = masters_of H; streams = length H.streams })) R W rounds
