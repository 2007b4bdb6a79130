-- Page 02, Ask 10, on a sheet of edition 2, from its bytes: two masters, the second silent. The planner accepts it and writes R 500 and 0, W 260 and 0,
-- rounds 1 and 0; each request of master 1 is answered within that R, and within that W where all keep their spacing. No run takes 500 bp, so
-- exactness is not asked here (crates/pnet_run: Editions, where the same masters and streams under edition 1 have a run that takes their bound).
-- Assumes nothing.
use Prim.Native.Nat.{ℕ}
use mathlib.Core.Path.{◌≡◌, refl, ◌∙◌}
use mathlib.Core.List.{List, [], ◌∷◌}
use native.Mathlib.Omega.{arith}
use lib.ListN.{length}
use Rattle.common.specs.Runs.{tab, filled}
use Rattle.sheet_rules.specs.Sheets.{Sheet}
use Rattle.sheet_rules.specs.Whole.Outcome.{Read}
use Rattle.units.specs.Units.{bp}
use Rattle.pnet_rules.specs.Segment.{Segment, segment_of, bound}
use Rattle.pnet_rules.specs.Refined.{rounds, refined}
use Rattle.pnet_plan.specs.Planned.{planned, run_of}
use Rattle.pnet_run.specs.Run.{Request, Answer, Queues, Token, Run}
use Rattle.pnet_run.specs.Promise.{Spaced, Answered, Reached}
use Rattle.pnet_run.proofs.Editions.{r_under_2, no_run_takes_R_under_2}
use Rattle.demands.proofs.Written3.{written, written_is_bound, each_request_is_answered_within_the_written_bound}
use Rattle.demands.proofs.Corrected.{written_refined, written_refined_is_W, each_request_is_answered_within_the_written_refined_figure}

-- kind 1: N = 2; kind 8: edition 2; kind 2: master 1, C = 203, T = D = 100,000
abbrev pub bytes : List ℕ
bytes = 1 ∷ 2 ∷ 8 ∷ 2 ∷ 2 ∷ 1 ∷ 0 ∷ 203 ∷ 0 ∷ 1 ∷ 134 ∷ 160 ∷ 0 ∷ 1 ∷ 134 ∷ 160 ∷ []

-- what they say
abbrev pub sheet : Sheet
sheet = record {
  head = record { kind = 1; a = 2; b = 0; c = 0; d = 0; e = 0 };
  settings = record { kind = 8; a = 2; b = 0; c = 0; d = 0; e = 0 } ∷ [];
  streams = record { kind = 2; a = 1; b = 203; c = 100000; d = 100000; e = 0 } ∷ [];
}

abbrev pub second : Segment
second = segment_of sheet

-- a lent run with a place for each master
abbrev pub lent : List ℕ
lent = 0 ∷ 0 ∷ []

pub accepts : planned bytes (length lent) (length lent) (length lent) ≡ Read sheet
unfolding planned
accepts = refl

-- what the planner writes: R, W and rounds, all 0 for the silent master
pub written_runs :
    let answer = planned bytes (length lent) (length lent) (length lent) in
    (run_of answer bound lent ≡ 500 ∷ 0 ∷ []) × (run_of answer refined lent ≡ 260 ∷ 0 ∷ []) × (run_of answer rounds lent ≡ 1 ∷ 0 ∷ [])
unfolding filled tab segment_of bound refined rounds
written_runs = rw accepts (refl, refl, refl)

-- 'Under edition 2, every response is still within the bound'
pub each_request_is_answered_within_500 : {now : ℕ} {token : Token} {queues : Queues} {came : List Request} {went : List Answer}
    → Run second now token queues came went → Spaced second 1 came → Answered (bp 500) second 1 now token came went
each_request_is_answered_within_500 run spaced =
    rw is_500 at (each_request_is_answered_within_the_written_bound bytes lent lent lent sheet accepts 1 (omega arith) (omega arith) run spaced)
  where
    is_500 : written bytes lent lent lent sheet accepts 1 (omega arith) (omega arith) ≡ 500
    is_500 = written_is_bound bytes lent lent lent sheet accepts 1 (omega arith) (omega arith) ∙ r_under_2

-- and within the refined figure, where all masters keep their spacing
pub each_request_is_answered_within_260 : {now : ℕ} {token : Token} {queues : Queues} {came : List Request} {went : List Answer}
    → Run second now token queues came went → ((y : ℕ) → Spaced second y came) → Answered (bp 260) second 1 now token came went
unfolding segment_of refined
each_request_is_answered_within_260 run spaced =
    rw is_260 at (each_request_is_answered_within_the_written_refined_figure bytes lent lent lent sheet accepts 1 (omega arith) (omega arith) run spaced)
  where
    is_260 : written_refined bytes lent lent lent sheet accepts 1 (omega arith) (omega arith) ≡ 260
    is_260 = written_refined_is_W bytes lent lent lent sheet accepts 1 (omega arith) (omega arith)

pub no_run_takes_500 : Reached (bp 500) second 1 → ⊥
no_run_takes_500 = rw r_under_2 at no_run_takes_R_under_2
